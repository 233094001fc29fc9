-- A call that saves a message.
use Rattle.std.proofs.Common.{◌≡◌, inl, inr, ⊎_elim, ℕ, ◌<◌, List, [], ◌∷◌, ◌++◌, length, map, Some, Result, Ok, Err, refl, sym, ◌∙◌, ap, subst, arith}
use Rattle.std.specs.Prelude.{All}
use Rattle.std.proofs.lemmas.List.Elements.{All-head, All-nil, All-tail}
use Rattle.dv_model.specs.declared.types.Mailbox.{Mailbox}
use Rattle.dv_model.specs.declared.types.Mark.{Mark}
use Rattle.dv_model.specs.declared.types.Row.{Row}
use Rattle.dv_model.specs.Mailboxes.{IsValid}
use Rattle.dv_shelf.specs.Crashes.{LeavesOnly}
use Rattle.dv_shelf.specs.Folders.{Folder}
use Rattle.dv_shelf.specs.Sees.{SeesFolder}
use Rattle.dv_shelf.proofs.Moments.{weaker}
use Rattle.dv_chain.specs.Openings.{OnlyLooks}
use Rattle.dv_chain.specs.Rest.{Nothing, Owed, Pending, next_mark}
use Rattle.dv_filing.specs.Standing.{Gives, MayGive as MayGiveNow}
use Rattle.dv_filing.specs.Ways.{IsOwedOnWay}
use Rattle.dv_maps.specs.declared.place.Place.{Place}
use Rattle.dv_maps.specs.Laws.{Saves}
use Rattle.dv_maps.specs.Storages.{Storage, item_of, saved, storage_of}
use Rattle.dv_maps.specs.Texts.{Messages, with_message}
use Rattle.dv_maps.proofs.Saving.{message_else}
use Rattle.dv_playing.specs.Laws.{RiseFrom}
use Rattle.dv_mdbox.specs.declared.fault.StorageFault.{StorageFault}
use Rattle.dv_mdbox.specs.declared.fault.StorageFault.TheVariants as fault
use Rattle.dv_mdbox.specs.Answers.{AnswersSave, HasStorageCause, IsShort, OnRefused}
use Rattle.dv_mdbox.specs.States.{IsAtRest, IsLookedAt, State}
use Rattle.dv_mdbox.specs.Writes.{MayGiveCall, SavesAt, SavesGroup, SavesQuietly, begin_of, mark_after}
use Rattle.dv_mdbox_lines.specs.declared.answers.Answer.{Answer}
use Rattle.dv_mdbox_lines.specs.declared.answers.Answer.TheVariants as answer
use Rattle.dv_mdbox_lines.specs.Playing.{MayCome, MaySave, MaySaveSo, Tried, behind, references}
use Rattle.dv_mdbox_lines.specs.Scripts.{Save}
use Rattle.dv_mdbox_serving.specs.Calls.{IsCalled, fault_answer, saved_answer, tried_of}
use Rattle.dv_mdbox_serving.specs.Following.{Follows, HasGroups, IsOwedBehind, failure_of}
use Rattle.dv_mdbox_serving.specs.Places.{GivesBetween, GivesStorage, MayMake}
use Rattle.dv_mdbox_serving.proofs.Giving.{gives_here, keeps_may}
use Rattle.dv_mdbox_serving.proofs.Going.{behind_more, cut_new}
use Rattle.dv_mdbox_serving.proofs.Counted.{before_gives, called, called_same, fault_id, fault_rises, fault_undone, groups_on, groups_one, owed_way, same_storage, storage_on}
use Rattle.dv_mdbox_serving.proofs.Read.{rest_still}

-- ---- the next id is no row's

items_same : (next : ℕ) (message : List ℕ) (messages : Messages) (m : Mailbox) (rows : List Row) → All (λ (row : Row). row.uid < next) rows → map (item_of (with_message next message messages) m) rows ≡ map (item_of messages m) rows
items_same next message messages m [] all = refl
items_same next message messages m (r ∷ rows) all =
    let low : r.uid < next = All-head (λ (row : Row). row.uid < next) r rows all in
    let one : item_of (with_message next message messages) m r ≡ item_of messages m r = λ i. record (item_of messages m r) { message = message_else next message messages r.uid low i } in
    let rest = items_same next message messages m rows (All-tail (λ (row : Row). row.uid < next) r rows all) in
    λ i. one i ∷ rest i

pub storage_same : (m : Mailbox) → IsValid m → (message : List ℕ) (messages : Messages) → storage_of (with_message m.next_uid message messages) m ≡ storage_of messages m
storage_same m valid message messages =
    let rows = items_same m.next_uid message messages m m.rows (λ k d inside. (valid.rows k d inside).uid.1) in
    λ i. record { next = m.next_uid; items = rows i }

-- ---- what becomes of it

module _ {S C : Type 0} (sees : SeesFolder S) (start : Storage) (base : ℕ) (calls : List Tried) (old new : State S C) (follows : Follows sees start base calls old) (message : List ℕ) (valid : IsValid old.chain.live.mailbox) (tells : Type 0) where
  abbrev m : Mailbox
  m = old.chain.live.mailbox

  abbrev here : Storage
  here = behind start calls

  abbrev Answers : Result ℕ StorageFault → Type 0
  Answers result = AnswersSave tells (sees.files old.shelf) m old.chain (length message) result

  abbrev Caused : Result ℕ StorageFault → Type 0
  Caused result = HasStorageCause (sees.fault_count old.shelf) (sees.fault_count new.shelf) result

  next_is : here.next ≡ m.next_uid
  next_is = ap (λ (k : Storage). k.next) (sym follows.keeps.storage)

  may_save : IsShort m old.chain (length message) → MaySave here message
  may_save short = (let same = next_is in let left = short.left in omega (arith, same, left), short.short)

  come_told : (told : Answer) → MaySaveSo here message told → MayCome here (tried_of (Save message) (Some told) [])
  come_told told may = record { answer = may; gone = All-nil (λ k. references here k ≡ 0); purge = λ no. refl }

  come_fault : (e : StorageFault) → Answers (Err e) → MayCome here (tried_of (Save message) (fault_answer e) [])
  come_fault fault.NoMemory is = record { answer = tt; gone = All-nil (λ k. references here k ≡ 0); purge = λ no. refl }
  come_fault (fault.Disk faults) is = come_told (answer.Disk faults) (may_save is)
  come_fault fault.None is = absurd is
  come_fault fault.Full is = absurd is
  come_fault fault.Ids is = come_told answer.Ids (next_is ∙ is)
  come_fault fault.Files is = come_told answer.Files (may_save is.0)
  come_fault (fault.TooLong bytes) is =
      come_told (answer.TooLong bytes) (let same = next_is in let left = is.0 in omega (arith, same, left), ⊎_elim (λ long. inl long) (λ full. inr (full.0, full.2)) is.1)

  no_groups : (e : StorageFault) → HasGroups (Save message) (fault_answer e) 0
  no_groups e = rw (fault_id e) refl

  -- a limit refused it
  refused_called : (e : StorageFault) → Answers (Err e) → Caused (Err e) → IsLookedAt old new → OnlyLooks sees old.shelf new.shelf → IsCalled sees start base calls (Save message) (fault_answer e) old new
  refused_called e answers cause looked looks =
      let k = follows.keeps in
      let t = tried_of (Save message) (fault_answer e) [] in
      called_same sees start base calls old new follows (Save message) (fault_answer e) (fault_undone e) (no_groups e) (come_fault e answers) (fault_rises {A = ℕ} e (sees.fault_count old.shelf) (sees.fault_count new.shelf) cause)
      (rest_still sees k.messages k.debt old new looked looks k.rests) (λ i. (looked.chain i).live.mailbox) looked.entries
      (weaker sees old.shelf new.shelf (sees.may_leave old.shelf) (GivesBetween start calls t) looks.since (before_gives sees start base calls old new follows t))

  abbrev next : Messages
  next = with_message m.next_uid message follows.keeps.messages

  -- what a crash leaves
  between : (t : Tried) (after : Mailbox) → ((mark : Mark) (c : Folder) → Gives next old.chain.indexid after mark c → GivesBetween start calls t c) → (c : Folder)
      → MayGiveCall follows.keeps.messages next follows.keeps.debt after 120 old.owed old.chain c → GivesBetween start calls t c
  between t after with c =
      let k = follows.keeps in
      ⊎_elim (λ one. inl (keeps_may sees start calls old k c one))
      (⊎_elim (λ two. inl (inl (gives_here k.messages old.chain here k.rests.map k.storage (next_mark old.chain) c two))) (λ done. with (mark_after (begin_of old.owed old.chain) 120) c done))

  saved_is : (place : Place) (after : Mailbox) → Saves place m after → storage_of next after ≡ saved message here
  saved_is place after saves = saves.storage follows.keeps.messages message ∙ ap (saved message) follows.keeps.storage

  given : (place : Place) (after : Mailbox) → Saves place m after → (mark : Mark) (c : Folder) → Gives next old.chain.indexid after mark c → GivesStorage (saved message here) c
  given place after saves mark c gives = record { indexid = old.chain.indexid; messages = next; mailbox = after; mark = mark; map = saves.map; storage = saved_is place after saves; gives = gives }

  -- the disk failed it, or memory ended it
  module _ (e : StorageFault) (answers : Answers (Err e)) (cause : Caused (Err e)) (makes : MayMake (Save message) (fault_answer e) here (saved message here)) (value : SavesGroup sees old new {T = ℕ} (Err e)) where
    abbrev t : Tried
    t = tried_of (Save message) (fault_answer e) []

    -- before there was a place for its text
    cut_early : IsAtRest sees follows.keeps.messages follows.keeps.debt new → LeavesOnly sees old.shelf new.shelf (MayGiveNow follows.keeps.messages follows.keeps.debt old.chain) → IsCalled sees start base calls (Save message) (fault_answer e) old new
    cut_early rest since =
        called_same sees start base calls old new follows (Save message) (fault_answer e) (fault_undone e) (no_groups e) (come_fault e answers) (fault_rises {A = ℕ} e (sees.fault_count old.shelf) (sees.fault_count new.shelf) cause)
        rest value.1.kept.0 value.1.kept.1
        (weaker sees old.shelf new.shelf (MayGiveNow follows.keeps.messages follows.keeps.debt old.chain) (GivesBetween start calls t) since (λ c gives. inl (keeps_may sees start calls old follows.keeps c gives)))

    module _ (place : Place) (at : SavesAt sees follows.keeps.messages follows.keeps.debt message place old new {T = ℕ} (Err e)) where
      since_at : LeavesOnly sees old.shelf new.shelf (GivesBetween start calls t)
      since_at =
          weaker sees old.shelf new.shelf (MayGiveCall follows.keeps.messages next follows.keeps.debt at.after 120 old.owed old.chain) (GivesBetween start calls t) at.any_moment
          (between t at.after (λ mark c gives. inr (inr (saved message here, makes, given place at.after at.saves mark c gives))))

      rise_at : RiseFrom (sees.fault_count old.shelf) (failure_of (fault_answer e)) (sees.fault_count new.shelf)
      rise_at = fault_rises {A = ℕ} e (sees.fault_count old.shelf) (sees.fault_count new.shelf) cause

      -- before its group
      cut_way : (debt : Owed) → IsOwedOnWay follows.keeps.debt m debt → IsAtRest sees follows.keeps.messages debt new → IsCalled sees start base calls (Save message) (fault_answer e) old new
      cut_way debt way rest =
          let k = follows.keeps in
          called sees start base calls old new follows (Save message) (fault_answer e) [] (come_fault e answers) rise_at
          (record {
            messages = k.messages;
            debt = debt;
            rests = rest;
            storage = storage_on sees start base calls old new follows t (fault_undone e, refl) k.messages (ap (storage_of k.messages) value.1.kept.0 ∙ k.storage);
            owed = owed_way sees start base calls old new follows t (fault_undone e, refl) k.messages k.debt debt m k.owed way;
          })
          (groups_on sees start base calls old new follows t (no_groups e) value.1.kept.1) since_at

      -- in its group
      cut_gate : (text : List ℕ) (debt : Owed) → debt ≡ Pending text at.after → IsAtRest sees next debt new → IsCalled sees start base calls (Save message) (fault_answer e) old new
      cut_gate text debt gate rest =
          let k = follows.keeps in
          called sees start base calls old new follows (Save message) (fault_answer e) [] (come_fault e answers) rise_at
          (record {
            messages = next;
            debt = debt;
            rests = rest;
            storage = storage_on sees start base calls old new follows t (fault_undone e, refl) next (ap (storage_of next) value.1.kept.0 ∙ storage_same m valid message k.messages ∙ k.storage);
            owed = subst (IsOwedBehind start (calls ++ t ∷ []) next) (sym gate) (
              at.saves.map,
              (
                t,
                cut_new calls t (fault_undone e),
                subst (λ (x : Storage). MayMake (Save message) (fault_answer e) x (storage_of next at.after)) (sym (same_storage sees start base calls old new follows t (fault_undone e, refl)))
                    (subst (λ (x : Storage). MayMake (Save message) (fault_answer e) here x) (sym (saved_is place at.after at.saves)) makes),
              ),
            );
          })
          (groups_on sees start base calls old new follows t (no_groups e) value.1.kept.1) since_at

      cut_at : IsCalled sees start base calls (Save message) (fault_answer e) old new
      cut_at =
          let some = at.err in
          ⊎_elim (λ way. cut_way some.0 way.0 way.1) (λ gate. cut_gate some.1 some.0 gate.0 gate.1) some.2

    cut_called : SavesQuietly sees follows.keeps.messages follows.keeps.debt message old new {T = ℕ} (Err e) → IsCalled sees start base calls (Save message) (fault_answer e) old new
    cut_called = ⊎_elim (λ early. cut_early early.0 early.1) (λ at. cut_at at.0 at.1)

  -- it is done
  done_called : (id : ℕ) → Answers (Ok id) → Caused (Ok id) → SavesGroup sees old new {E = StorageFault} (Ok id) → SavesQuietly sees follows.keeps.messages follows.keeps.debt message old new {E = StorageFault} (Ok id)
      → IsCalled sees start base calls (Save message) (Some (answer.Done id)) old new
  done_called id answers cause value quiet =
      let k = follows.keeps in
      let t = tried_of (Save message) (Some (answer.Done id)) [] in
      let at = quiet.1 in
      called sees start base calls old new follows (Save message) (Some (answer.Done id)) [] (come_told (answer.Done id) (may_save answers.0, answers.1 ∙ sym next_is)) cause.later
      (record {
        messages = next;
        debt = Nothing;
        rests = at.ok.0;
        storage = ap (storage_of next) at.ok.1 ∙ saved_is quiet.0 at.after at.saves ∙ sym (behind_more calls start t);
        owed = tt;
      })
      (groups_one sees start base calls old new follows t _ refl value.1.entries)
      (weaker sees old.shelf new.shelf (MayGiveCall k.messages next k.debt at.after 120 old.owed old.chain) (GivesBetween start calls t) at.any_moment
      (between t at.after (λ mark c gives. inr (inl (given quiet.0 at.after at.saves mark c gives)))))

  pub saved_called : (result : Result ℕ StorageFault) → Answers result → tells → OnRefused result (IsLookedAt old new × (tells → OnlyLooks sees old.shelf new.shelf)) → SavesGroup sees old new result → SavesQuietly sees follows.keeps.messages follows.keeps.debt message old new result → Caused result
      → IsCalled sees start base calls (Save message) (saved_answer result) old new
  saved_called (Ok id) answers told refused value quiet cause = done_called id answers cause value quiet
  saved_called (Err fault.NoMemory) answers told refused value quiet cause = cut_called fault.NoMemory answers cause (tt, ((may_save answers, refl), refl)) value quiet
  saved_called (Err (fault.Disk faults)) answers told refused value quiet cause = cut_called (fault.Disk faults) answers cause (tt, ((may_save answers, refl), refl)) value quiet
  saved_called (Err fault.None) answers told refused value quiet cause = absurd answers
  saved_called (Err fault.Full) answers told refused value quiet cause = absurd answers
  saved_called (Err fault.Ids) answers told refused value quiet cause = refused_called fault.Ids answers cause refused.0 (refused.1 told)
  saved_called (Err fault.Files) answers told refused value quiet cause = refused_called fault.Files answers cause refused.0 (refused.1 told)
  saved_called (Err (fault.TooLong bytes)) answers told refused value quiet cause = refused_called (fault.TooLong bytes) answers cause refused.0 (refused.1 told)
