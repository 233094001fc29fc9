-- A message is saved where a place for its text was found.
use Rattle.std.proofs.Common.{◌≡◌, inl, inr, ⊎_elim, ℕ, List, Result, Ok, Err, refl, sym, subst}
use Rattle.std.specs.Prelude.{IfErr, IfOk, OnOk}
use Rattle.dv_model.specs.declared.types.Mailbox.{Mailbox}
use Rattle.dv_shelf.specs.Crashes.{LeavesOnly}
use Rattle.dv_shelf.specs.Folders.{Folder}
use Rattle.dv_shelf.specs.Sees.{SeesFolder}
use Rattle.dv_shelf.proofs.Moments.{joined, started, weaker}
use Rattle.dv_chain.specs.declared.chain.Chain.{Chain}
use Rattle.dv_chain.specs.Openings.{OnlyLooks}
use Rattle.dv_chain.specs.Rest.{Owed}
use Rattle.dv_filing.specs.Standing.{MayGive}
use Rattle.dv_filing.proofs.Resting.{rests_give}
use Rattle.dv_maps.specs.declared.place.Place.{Place}
use Rattle.dv_maps.specs.Texts.{Messages, with_message}
use Rattle.dv_mdbox.specs.declared.fault.StorageFault.{StorageFault}
use Rattle.dv_mdbox.specs.declared.fault.StorageFault.TheVariants as fault
use Rattle.dv_mdbox.specs.declared.tails.Target.{Target}
use Rattle.dv_mdbox.specs.Answers.{AnswersSave, IsFailure, IsShort}
use Rattle.dv_mdbox.specs.States.{IsAtRest, IsLookedAt, State}
use Rattle.dv_mdbox.specs.Tails.{FindsTarget}
use Rattle.dv_mdbox.specs.Writes.{MayGiveCall, SavesAt, SavesGroup, SavesGroupAt, SavesQuietly}
use Rattle.dv_mdbox.proofs.Equal.{stands_looked}

-- ---- answers

module _ (tells : Type 0) (folder : Folder) (m : Mailbox) (chain : Chain) (size : ℕ) (short : IsShort m chain size) where
  pub answers_put : (result : Result ℕ StorageFault) → IfOk result (λ id. id ≡ m.next_uid) → IfErr result IsFailure → AnswersSave tells folder m chain size result
  answers_put (Ok id) is failure = (short, is)
  answers_put (Err (fault.Disk faults)) is failure = short
  answers_put (Err fault.NoMemory) is failure = short
  answers_put (Err fault.None) is failure = absurd failure
  answers_put (Err fault.Full) is failure = absurd failure
  answers_put (Err fault.Ids) is failure = absurd failure
  answers_put (Err fault.Files) is failure = absurd failure
  answers_put (Err (fault.TooLong bytes)) is failure = absurd failure

  pub answers_unfound : (e : StorageFault) → FindsTarget tells folder m (Err e) → AnswersSave tells folder m chain size (Err e)
  answers_unfound fault.Files finds = (short, finds)
  answers_unfound (fault.Disk faults) finds = short
  answers_unfound fault.NoMemory finds = short
  answers_unfound fault.None finds = absurd finds.3
  answers_unfound fault.Full finds = absurd finds.3
  answers_unfound fault.Ids finds = absurd finds.3
  answers_unfound (fault.TooLong bytes) finds = absurd finds.3

-- ---- the map

-- what holds anyway holds behind Ok
pub ok_anyway : {T E P : Type 0} (r : Result T E) → P → OnOk r P
ok_anyway (Ok x) holds = holds
ok_anyway (Err e) holds = tt

on_ok : {T E P Q : Type 0} (r : Result T E) → (P → Q) → OnOk r P → OnOk r Q
on_ok (Ok x) then is = then is
on_ok (Err e) then is = tt

-- the place is where the next text goes
found_at : (tells : Type 0) (folder : Folder) (m : Mailbox) (target : Target) (place : Place) → FindsTarget tells folder m (Ok target) → (place.file ≡ target.file) × (place.offset ≡ target.offset) → FindsTarget tells folder m (Ok (record { file = place.file; offset = place.offset }))
found_at tells folder m target place finds at =
    subst (λ (n : ℕ). FindsTarget tells folder m (Ok (record { file = n; offset = place.offset }))) (sym at.0)
    (subst (λ (n : ℕ). FindsTarget tells folder m (Ok (record { file = target.file; offset = n }))) (sym at.1) finds)

-- the folder that was looked at says nothing of it
pub group_shelved : {S C : Type 0} (sees : SeesFolder S) (old new : State S C) (shelf : S) (target : Target) {T E : Type 0} (result : Result T E) → FindsTarget sees.tells (sees.files old.shelf) old.chain.live.mailbox (Ok target) → SavesGroupAt target (record old { shelf = shelf }) new result
    → SavesGroup sees old new result
group_shelved sees old new shelf target result finds saves =
    let w = saves.1 in (
      saves.0,
      record { map = w.map; entries = w.entries; mark = w.mark; kept = w.kept; start = w.start; indexid = w.indexid },
      on_ok result (found_at sees.tells (sees.files old.shelf) old.chain.live.mailbox target saves.0 finds) saves.2,
    )

-- ---- the folder

-- nothing was called
pub looks_itself : {S : Type 0} (sees : SeesFolder S) (s : S) → ((c : Folder) → sees.left_since s (sees.moment s) c → sees.may_leave s c) → OnlyLooks sees s s
looks_itself sees s now = record { same = refl; crash = λ c left. left; since = started sees s (sees.may_leave s) now }

pub looked_itself : {S C : Type 0} (s : State S C) → IsLookedAt s s
looked_itself s = record { clock = refl; chain = refl; owed = refl; start = refl; entries = refl; mark = refl; tail = refl }

module _ {S C : Type 0} (sees : SeesFolder S) (messages : Messages) (debt : Owed) (message : List ℕ) (old : State S C) (mid : S) (looks : OnlyLooks sees old.shelf mid) (rest : IsAtRest sees messages debt old) where
  abbrev looked : State S C
  looked = record old { shelf = mid }

  pub rest_looked : IsAtRest sees messages debt looked
  rest_looked = record { stands = stands_looked sees messages debt old.chain old.shelf mid looks rest.stands; fits = rest.fits; map = rest.map }

  since_looked : (P : Folder → Type 0) → ((c : Folder) → MayGive messages debt old.chain c → P c) → LeavesOnly sees old.shelf mid P
  since_looked P gives = weaker sees old.shelf mid (sees.may_leave old.shelf) P looks.since (λ c left. gives c (rests_give sees messages debt old.chain old.shelf c rest.stands left))

  pub saves_unfound : {T : Type 0} (e : StorageFault) → SavesQuietly sees messages debt message old looked {T = T} {E = StorageFault} (Err e)
  saves_unfound e = inl (rest_looked, since_looked (MayGive messages debt old.chain) (λ c gives. gives))

  at_looked : (place : Place) (new : State S C) {T E : Type 0} (result : Result T E) → SavesAt sees messages debt message place looked new result → SavesAt sees messages debt message place old new result
  at_looked place new result s = record {
    after = s.after;
    saves = s.saves;
    ok = s.ok;
    err = s.err;
    any_moment =
        let May : Folder → Type 0 = MayGiveCall messages (with_message old.chain.live.mailbox.next_uid message messages) debt s.after 120 old.owed old.chain in
        joined sees old.shelf mid new.shelf May (since_looked May (λ c gives. inl gives)) s.any_moment;
  }

  pub saves_found : (new : State S C) {T E : Type 0} (result : Result T E) → SavesQuietly sees messages debt message looked new result → SavesQuietly sees messages debt message old new result
  saves_found new (Ok x) s = (s.0, at_looked s.0 new (Ok x) s.1)
  saves_found new (Err e) s =
      ⊎_elim (λ still. inl (still.0, joined sees old.shelf mid new.shelf (MayGive messages debt old.chain) (since_looked (MayGive messages debt old.chain) (λ c gives. gives)) still.1))
      (λ at. inr (at.0, at_looked at.0 new (Err e) at.1)) s
