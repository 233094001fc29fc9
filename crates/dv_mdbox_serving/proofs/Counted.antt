-- A call that changes the count of an id.
use Rattle.std.proofs.Common.{◌≡◌, inl, inr, ⊎_elim, ℕ, ◌+◌, ◌-◌, ◌<◌, List, [], ◌∷◌, ◌++◌, length, Option, Some, None, is_some, Result, Ok, Err, refl, sym, ◌∙◌, ap, subst, arith}
use Rattle.std.specs.Prelude.{if◌then◌else◌}
use Rattle.std.proofs.lemmas.List.{length-append}
use Rattle.std.proofs.lemmas.List.Elements.{All-nil}
use Rattle.dv_model.specs.declared.types.Entry.{Entry}
use Rattle.dv_model.specs.declared.types.Mailbox.{Mailbox}
use Rattle.dv_model.specs.declared.types.Mark.{Mark}
use Rattle.dv_model.specs.Counts.{Rose}
use Rattle.dv_shelf.specs.Crashes.{LeavesOnly}
use Rattle.dv_shelf.specs.Folders.{Folder}
use Rattle.dv_shelf.specs.Sees.{SeesFolder}
use Rattle.dv_shelf.proofs.Moments.{started, weaker}
use Rattle.dv_chain.specs.Rest.{Last, Nothing, Owed, Pending, next_mark}
use Rattle.dv_filing.specs.Standing.{Gives}
use Rattle.dv_filing.specs.Ways.{IsOwedOnWay}
use Rattle.dv_filing.specs.Writes.{IsLeftOwed}
use Rattle.dv_filing.proofs.Resting.{rests_give}
use Rattle.dv_maps.specs.Groups.{count_records}
use Rattle.dv_maps.specs.Laws.{Counts, IsMap}
use Rattle.dv_maps.specs.Storages.{Storage, storage_of, with_count}
use Rattle.dv_maps.specs.Texts.{Messages}
use Rattle.dv_playing.specs.Laws.{RiseFrom}
use Rattle.dv_mdbox.specs.declared.fault.StorageFault.{StorageFault}
use Rattle.dv_mdbox.specs.declared.fault.StorageFault.TheVariants as fault
use Rattle.dv_mdbox.specs.Answers.{ChangesCount, HasStorageCause, IsReferenced, OnRefused}
use Rattle.dv_mdbox.specs.States.{IsAtRest, State}
use Rattle.dv_mdbox.specs.Writes.{CountsQuietly, MayGiveCall, WritesGroup, begin_of, mark_after}
use Rattle.dv_mdbox_lines.specs.declared.answers.Answer.{Answer}
use Rattle.dv_mdbox_lines.specs.declared.answers.Answer.TheVariants as answer
use Rattle.dv_mdbox_lines.specs.Playing.{HasSome, IsPurge, MayAnswer, MayCome, MayCount, Tried, after_call, behind, behind_call, done_id, references}
use Rattle.dv_mdbox_lines.specs.Scripts.{Call, Copy, Drop}
use Rattle.dv_mdbox_serving.specs.Calls.{IsCalled, counted_answer, fault_answer, tried_of}
use Rattle.dv_mdbox_serving.specs.Following.{Follows, HasGroups, HaveGroups, IsOwedBehind, Keeps, failure_of}
use Rattle.dv_mdbox_serving.specs.Places.{GivesBetween, GivesStorage, IsUndone, LeavesAll, MayMake}
use Rattle.dv_mdbox_serving.proofs.Giving.{gives_here, keeps_may}
use Rattle.dv_mdbox_serving.proofs.Going.{behind_more, cut_more, cut_new, go_more, groups_more, leaves_all, rise_call}
use Rattle.dv_mdbox_serving.proofs.Referenced.{has_reference, none_referenced, referenced}

-- ---- a fault

pub fault_undone : (e : StorageFault) → IsUndone (fault_answer e)
fault_undone fault.NoMemory = tt
fault_undone (fault.Disk faults) = tt
fault_undone fault.None = tt
fault_undone fault.Full = tt
fault_undone fault.Ids = tt
fault_undone fault.Files = tt
fault_undone (fault.TooLong bytes) = tt

pub fault_rises : {A : Type 0} (e : StorageFault) (before now : ℕ) → HasStorageCause {A = A} before now (Err e) → RiseFrom before (failure_of (fault_answer e)) now
fault_rises fault.NoMemory before now cause = cause.later
fault_rises (fault.Disk faults) before now cause = (subst (Rose before) (sym cause.rose.0) cause.rose.1, let same = cause.rose.0 in omega (arith, same))
fault_rises fault.None before now cause = cause.later
fault_rises fault.Full before now cause = cause.later
fault_rises fault.Ids before now cause = cause.later
fault_rises fault.Files before now cause = cause.later
fault_rises (fault.TooLong bytes) before now cause = cause.later

pub fault_id : (e : StorageFault) → done_id (fault_answer e) ≡ None
fault_id fault.NoMemory = refl
fault_id (fault.Disk faults) = refl
fault_id fault.None = refl
fault_id fault.Full = refl
fault_id fault.Ids = refl
fault_id fault.Files = refl
fault_id (fault.TooLong bytes) = refl

-- ---- a call that leaves the storage as it was

module _ {S C : Type 0} (sees : SeesFolder S) (start : Storage) (base : ℕ) (calls : List Tried) (old new : State S C) (follows : Follows sees start base calls old) where
  abbrev s : Storage
  s = behind start calls

  module _ (t : Tried) (leaves : LeavesAll t) where
    pub same_storage : behind start (calls ++ t ∷ []) ≡ s
    same_storage = behind_more calls start t ∙ leaves_all t s leaves

    -- what was owed still is
    pub owed_on : (messages : Messages) (debt : Owed) → IsOwedBehind start calls messages debt → IsOwedBehind start (calls ++ t ∷ []) messages debt
    owed_on messages Nothing owed = tt
    owed_on messages (Last log after) owed = tt
    owed_on messages (Pending text after) owed = (
      owed.0,
      (
        owed.1.0,
        cut_more calls owed.1.0 t owed.1.1 leaves,
        subst (λ (k : Storage). MayMake owed.1.0.call owed.1.0.answer k (storage_of messages after)) (sym same_storage) owed.1.2,
      ),
    )

    -- or the call's own group is
    pub owed_way : (messages : Messages) (debt now : Owed) (m : Mailbox) → IsOwedBehind start calls messages debt → IsOwedOnWay debt m now → IsOwedBehind start (calls ++ t ∷ []) messages now
    owed_way messages debt now m owed =
        ⊎_elim (λ kept. subst (IsOwedBehind start (calls ++ t ∷ []) messages) (sym kept) (owed_on messages debt owed))
        (⊎_elim (λ none. subst (IsOwedBehind start (calls ++ t ∷ []) messages) (sym none) tt)
        (λ last. subst (IsOwedBehind start (calls ++ t ∷ []) messages) (sym last.1) tt))

    pub owed_left : (messages : Messages) (debt now : Owed) (text : List ℕ) (m after : Mailbox) → IsOwedBehind start calls messages debt → IsLeftOwed debt text m after now → IsMap after → MayMake t.call t.answer s (storage_of messages after)
        → IsOwedBehind start (calls ++ t ∷ []) messages now
    owed_left messages debt now text m after owed left map makes =
        ⊎_elim (owed_way messages debt now m owed)
        (λ gate. subst (IsOwedBehind start (calls ++ t ∷ []) messages) (sym gate)
        (map, (t, cut_new calls t leaves.0, subst (λ (k : Storage). MayMake t.call t.answer k (storage_of messages after)) (sym same_storage) makes))) left

    pub storage_on : (messages : Messages) → storage_of messages new.chain.live.mailbox ≡ s → storage_of messages new.chain.live.mailbox ≡ behind start (calls ++ t ∷ [])
    storage_on messages is = is ∙ sym same_storage

  -- the entries are as many
  pub groups_on : (t : Tried) → HasGroups t.call t.answer 0 → new.entries ≡ old.entries → HaveGroups (calls ++ t ∷ []) (length new.entries)
  groups_on t none same =
      let sum : length old.entries + 0 ≡ length new.entries = omega (arith, ap length same) in
      subst (HaveGroups (calls ++ t ∷ [])) sum (groups_more calls t (length old.entries) 0 follows.groups none)

  pub groups_one : (t : Tried) (e : Entry) → HasGroups t.call t.answer 1 → new.entries ≡ old.entries ++ e ∷ [] → HaveGroups (calls ++ t ∷ []) (length new.entries)
  groups_one t e one same =
      let long = length-append old.entries (e ∷ []) in
      let sum : length old.entries + 1 ≡ length new.entries = omega (arith, ap length same, long) in
      subst (HaveGroups (calls ++ t ∷ [])) sum (groups_more calls t (length old.entries) 1 follows.groups one)

  -- what a crash leaves before it
  pub before_gives : (t : Tried) (c : Folder) → sees.may_leave old.shelf c → GivesBetween start calls t c
  before_gives t c left =
      let k = follows.keeps in
      inl (keeps_may sees start calls old k c (rests_give sees k.messages k.debt old.chain old.shelf c k.rests.stands left))

  -- all is put together
  pub called : (call : Call) (told : Option Answer) (gone : List ℕ) → MayCome s (tried_of call told gone) → RiseFrom (sees.fault_count old.shelf) (failure_of told) (sees.fault_count new.shelf) → Keeps sees start (calls ++ tried_of call told gone ∷ []) new
      → HaveGroups (calls ++ tried_of call told gone ∷ []) (length new.entries) → LeavesOnly sees old.shelf new.shelf (GivesBetween start calls (tried_of call told gone)) → IsCalled sees start base calls call told old new
  called call told gone come rise keeps groups since = record {
    gone = gone;
    follows = record {
      may = go_more calls start (tried_of call told gone) follows.may come;
      failures = rise_call base (sees.fault_count old.shelf) (sees.fault_count new.shelf) calls (tried_of call told gone) follows.failures rise;
      keeps = keeps;
      groups = groups;
    };
    since = since;
  }

  -- the call left all as it was
  pub called_same : (call : Call) (told : Option Answer) → IsUndone told → HasGroups call told 0 → MayCome s (tried_of call told []) → RiseFrom (sees.fault_count old.shelf) (failure_of told) (sees.fault_count new.shelf)
      → IsAtRest sees follows.keeps.messages follows.keeps.debt new → new.chain.live.mailbox ≡ old.chain.live.mailbox → new.entries ≡ old.entries → LeavesOnly sees old.shelf new.shelf (GivesBetween start calls (tried_of call told [])) → IsCalled sees start base calls call told old new
  called_same call told undone none come rise rest map entries since =
      let k = follows.keeps in
      let t = tried_of call told [] in
      called call told [] come rise
      (record {
        messages = k.messages;
        debt = k.debt;
        rests = rest;
        storage = storage_on t (undone, refl) k.messages (ap (storage_of k.messages) map ∙ k.storage);
        owed = owed_on t (undone, refl) k.messages k.debt k.owed;
      })
      (groups_on t none entries) since

-- ---- a count

-- what is known of a call that changes one
pub record IsCountOf (call : Call) (id most : ℕ) (change : ℕ → ℕ) : Type 0 where
  pub after : (told : Option Answer) (s : Storage) → after_call call told [] s ≡ (if is_some (done_id told) then with_count id change s else s)
  pub answers : (s : Storage) (told : Answer) → MayCount s id most told → MayAnswer s call [] (Some told)
  pub silent : (s : Storage) → MayAnswer s call [] None
  pub purge : IsPurge call → ⊥
  pub ended : (s : Storage) → HasSome s id most → MayMake call None s (with_count id change s)
  pub failed : (s : Storage) (faults : ℕ) → HasSome s id most → MayMake call (Some (answer.Disk faults)) s (with_count id change s)
  pub groups : (told : Option Answer) (n : ℕ) → n ≡ (if is_some (done_id told) then 1 else 0) → HasGroups call told n

pub is_copy : (id : ℕ) → IsCountOf (Copy id) id 65535 (λ n. n + 1)
is_copy id = record {
  after = λ told s. refl;
  answers = λ s told may. may;
  silent = λ s. tt;
  purge = λ e. e;
  ended = λ s some. (tt, ((some, refl), refl));
  failed = λ s faults some. (tt, ((some, refl), refl));
  groups = λ told n is. is;
}

pub is_drop : (id : ℕ) → IsCountOf (Drop id) id 65536 (λ n. n - 1)
is_drop id = record {
  after = λ told s. refl;
  answers = λ s told may. may;
  silent = λ s. tt;
  purge = λ e. e;
  ended = λ s some. (tt, ((some, refl), refl));
  failed = λ s faults some. (tt, ((some, refl), refl));
  groups = λ told n is. is;
}

-- ---- its answer

module _ (messages : Messages) (m : Mailbox) (id most : ℕ) where
  has_some : IsReferenced m id (λ n. n < most) → HasSome (storage_of messages m) id most
  has_some (reference, is, less) =
      let same = referenced messages m id reference is in
      let some = (has_reference messages m id reference is).some in
      (omega (arith, same, some), omega (arith, same, less))

  has_most : IsReferenced m id (λ n. n ≡ most) → references (storage_of messages m) id ≡ most
  has_most (reference, is, same) = referenced messages m id reference is ∙ same

-- ---- what becomes of it

module _ {S C : Type 0} (sees : SeesFolder S) (start : Storage) (base : ℕ) (calls : List Tried) (old new : State S C) (follows : Follows sees start base calls old) (call : Call) (id most : ℕ) (change : ℕ → ℕ) (of : IsCountOf call id most change)
    (now : (c : Folder) → sees.left_since old.shelf (sees.moment old.shelf) c → sees.may_leave old.shelf c) where
  abbrev m : Mailbox
  m = old.chain.live.mailbox

  abbrev here : Storage
  here = behind start calls

  at_here : (P : Storage → Type 0) → P (storage_of follows.keeps.messages m) → P here
  at_here P p = subst P follows.keeps.storage p

  come_told : (told : Answer) → MayCount (storage_of follows.keeps.messages m) id most told → MayCome here (tried_of call (Some told) [])
  come_told told may = record { answer = of.answers here told (at_here (λ k. MayCount k id most told) may); gone = All-nil (λ k. references here k ≡ 0); purge = λ no. refl }

  come_silent : MayCome here (tried_of call None [])
  come_silent = record { answer = of.silent here; gone = All-nil (λ k. references here k ≡ 0); purge = λ no. refl }

  come_fault : (e : StorageFault) → ChangesCount m old.chain id most {A = Unit {0}} (Err e) → MayCome here (tried_of call (fault_answer e) [])
  come_fault fault.NoMemory is = come_silent
  come_fault (fault.Disk faults) is = come_told (answer.Disk faults) (has_some follows.keeps.messages m id most is.0)
  come_fault fault.None is = come_told answer.None (none_referenced follows.keeps.messages m id is)
  come_fault fault.Full is = come_told answer.Full (has_most follows.keeps.messages m id most is)
  come_fault fault.Ids is = absurd is
  come_fault fault.Files is = absurd is
  come_fault (fault.TooLong bytes) is = come_told (answer.TooLong bytes) (has_some follows.keeps.messages m id most is.0, is.2)

  no_groups : (e : StorageFault) → HasGroups call (fault_answer e) 0
  no_groups e = of.groups (fault_answer e) 0 (rw (fault_id e) refl)

  -- nothing was changed
  same_called : (e : StorageFault) → ChangesCount m old.chain id most {A = Unit {0}} (Err e) → HasStorageCause {A = Unit {0}} (sees.fault_count old.shelf) (sees.fault_count new.shelf) (Err e) → new ≡ old → IsCalled sees start base calls call (fault_answer e) old new
  same_called e answers cause same =
      called_same sees start base calls old new follows call (fault_answer e) (fault_undone e) (no_groups e) (come_fault e answers) (fault_rises {A = Unit {0}} e (sees.fault_count old.shelf) (sees.fault_count new.shelf) cause)
      (subst (IsAtRest sees follows.keeps.messages follows.keeps.debt) (sym same) follows.keeps.rests) (ap (λ (k : State S C). k.chain.live.mailbox) same) (ap (λ (k : State S C). k.entries) same)
      (subst (λ (k : State S C). LeavesOnly sees old.shelf k.shelf (GivesBetween start calls (tried_of call (fault_answer e) []))) (sym same)
      (started sees old.shelf (GivesBetween start calls (tried_of call (fault_answer e) [])) (λ c left. before_gives sees start base calls old new follows (tried_of call (fault_answer e) []) c (now c left))))

  -- what a crash leaves
  between : (t : Tried) (after : Mailbox) → ((mark : Mark) (c : Folder) → Gives follows.keeps.messages old.chain.indexid after mark c → GivesBetween start calls t c) → (c : Folder)
      → MayGiveCall follows.keeps.messages follows.keeps.messages follows.keeps.debt after 48 old.owed old.chain c → GivesBetween start calls t c
  between t after with c =
      let k = follows.keeps in
      ⊎_elim (λ one. inl (keeps_may sees start calls old k c one))
      (⊎_elim (λ two. inl (inl (gives_here k.messages old.chain here k.rests.map k.storage (next_mark old.chain) c two))) (λ done. with (mark_after (begin_of old.owed old.chain) 48) c done))

  counted_is : (after : Mailbox) → Counts id change m after → storage_of follows.keeps.messages after ≡ with_count id change here
  counted_is after counts = counts.storage follows.keeps.messages ∙ ap (with_count id change) follows.keeps.storage

  given : (after : Mailbox) → Counts id change m after → (mark : Mark) (c : Folder) → Gives follows.keeps.messages old.chain.indexid after mark c → GivesStorage (with_count id change here) c
  given after counts mark c gives = record { indexid = old.chain.indexid; messages = follows.keeps.messages; mailbox = after; mark = mark; map = counts.map; storage = counted_is after counts; gives = gives }

  -- the disk failed it, or memory ended it
  cut_called : (e : StorageFault) → ChangesCount m old.chain id most {A = Unit {0}} (Err e) → HasStorageCause {A = Unit {0}} (sees.fault_count old.shelf) (sees.fault_count new.shelf) (Err e) → MayMake call (fault_answer e) here (with_count id change here)
      → (records : ℕ) → WritesGroup (count_records id records) old new {T = Unit {0}} (Err e) → CountsQuietly sees follows.keeps.messages follows.keeps.debt id change old new {T = Unit {0}} (Err e) → IsCalled sees start base calls call (fault_answer e) old new
  cut_called e answers cause makes records value quiet =
      let k = follows.keeps in
      let t = tried_of call (fault_answer e) [] in
      let some = quiet.err in
      called sees start base calls old new follows call (fault_answer e) [] (come_fault e answers) (fault_rises {A = Unit {0}} e (sees.fault_count old.shelf) (sees.fault_count new.shelf) cause)
      (record {
        messages = k.messages;
        debt = some.0;
        rests = some.3;
        storage = storage_on sees start base calls old new follows t (fault_undone e, refl) k.messages (ap (storage_of k.messages) value.kept.0 ∙ k.storage);
        owed = owed_left sees start base calls old new follows t (fault_undone e, refl) k.messages k.debt some.0 some.1 m quiet.after k.owed some.2 quiet.counts.map
            (subst (MayMake call (fault_answer e) here) (sym (counted_is quiet.after quiet.counts)) makes);
      })
      (groups_on sees start base calls old new follows t (no_groups e) value.kept.1)
      (weaker sees old.shelf new.shelf (MayGiveCall k.messages k.messages k.debt quiet.after 48 old.owed old.chain) (GivesBetween start calls t) quiet.any_moment
      (between t quiet.after (λ mark c gives. inr (inr (with_count id change here, makes, given quiet.after quiet.counts mark c gives)))))

  -- it is done
  done_called : (x : Unit {0}) → ChangesCount m old.chain id most (Ok x) → HasStorageCause {A = Unit {0}} (sees.fault_count old.shelf) (sees.fault_count new.shelf) (Ok x) → (records : ℕ) → WritesGroup (count_records id records) old new {E = StorageFault} (Ok x)
      → CountsQuietly sees follows.keeps.messages follows.keeps.debt id change old new {E = StorageFault} (Ok x) → IsCalled sees start base calls call (Some (answer.Done id)) old new
  done_called x answers cause records value quiet =
      let k = follows.keeps in
      let t = tried_of call (Some (answer.Done id)) [] in
      let after_is : behind_call here t ≡ with_count id change here = of.after (Some (answer.Done id)) here in
      called sees start base calls old new follows call (Some (answer.Done id)) [] (come_told (answer.Done id) (has_some k.messages m id most answers.0, refl)) cause.later
      (record {
        messages = k.messages;
        debt = Nothing;
        rests = quiet.ok.0;
        storage = ap (storage_of k.messages) quiet.ok.1 ∙ counted_is quiet.after quiet.counts ∙ sym (behind_more calls start t ∙ after_is);
        owed = tt;
      })
      (groups_one sees start base calls old new follows t _ (of.groups (Some (answer.Done id)) 1 refl) value.entries)
      (weaker sees old.shelf new.shelf (MayGiveCall k.messages k.messages k.debt quiet.after 48 old.owed old.chain) (GivesBetween start calls t) quiet.any_moment
      (between t quiet.after (λ mark c gives. inr (inl (subst (λ (x : Storage). GivesStorage x c) (sym after_is) (given quiet.after quiet.counts mark c gives))))))

  able : IsReferenced m id (λ n. n < most) → HasSome here id most
  able there = at_here (λ k. HasSome k id most) (has_some follows.keeps.messages m id most there)

  pub counted_called : (result : Result (Unit {0}) StorageFault) → ChangesCount m old.chain id most result → OnRefused result (new ≡ old) → ((count : ℕ) → IsReferenced m id (λ n. n ≡ count) → WritesGroup (count_records id (change count)) old new result)
      → ((messages : Messages) (debt : Owed) → IsReferenced m id (λ n. n < most) → IsAtRest sees messages debt old → CountsQuietly sees messages debt id change old new result) → HasStorageCause (sees.fault_count old.shelf) (sees.fault_count new.shelf) result
      → IsCalled sees start base calls call (counted_answer id result) old new
  counted_called (Ok x) answers refused value gives cause =
      let k = follows.keeps in
      let there = answers.0 in
      done_called x answers cause (change there.0.count) (value there.0.count (there.0, there.1, refl)) (gives k.messages k.debt there k.rests)
  counted_called (Err fault.NoMemory) answers refused value gives cause =
      let k = follows.keeps in
      let there = answers.0 in
      cut_called fault.NoMemory answers cause (of.ended here (able there)) (change there.0.count) (value there.0.count (there.0, there.1, refl)) (gives k.messages k.debt there k.rests)
  counted_called (Err (fault.Disk faults)) answers refused value gives cause =
      let k = follows.keeps in
      let there = answers.0 in
      cut_called (fault.Disk faults) answers cause (of.failed here faults (able there)) (change there.0.count) (value there.0.count (there.0, there.1, refl)) (gives k.messages k.debt there k.rests)
  counted_called (Err fault.None) answers refused value gives cause = same_called fault.None answers cause refused
  counted_called (Err fault.Full) answers refused value gives cause = same_called fault.Full answers cause refused
  counted_called (Err fault.Ids) answers refused value gives cause = absurd answers
  counted_called (Err fault.Files) answers refused value gives cause = absurd answers
  counted_called (Err (fault.TooLong bytes)) answers refused value gives cause = same_called (fault.TooLong bytes) answers cause refused
