-- A purge of a map, file by file.
use Rattle.std.proofs.Common.{◌≡◌, ◌⊎◌, inl, inr, ⊎_elim, ℕ, ◌+◌, true, List, [], ◌∷◌, ◌++◌, map, Option, Result, Ok, Err, refl, sym, ◌∙◌, ap, subst, append_assoc}
use Rattle.std.proofs.lemmas.List.{append-nil, map-append}
use Rattle.dv_model.specs.declared.types.Mailbox.{Mailbox}
use Rattle.dv_model.specs.declared.types.Mark.{Mark}
use Rattle.dv_model.specs.declared.types.Record.{Record}
use Rattle.dv_model.specs.Journals.{mark_behind}
use Rattle.dv_shelf.specs.Folders.{Folder}
use Rattle.dv_chain.specs.declared.chain.Chain.{Chain}
use Rattle.dv_maps.specs.Purges.{all_mapped, file_records}
use Rattle.dv_mdbox.specs.declared.fault.StorageFault.{StorageFault}
use Rattle.dv_mdbox.specs.Answers.{IsFailure}
use Rattle.dv_mdbox.specs.Purging.{FitsKnown, HasRoomAt, HaveRoom, IsNextGone, IsRewritten, IsStuck, PassesKnown, PurgesFiles, PurgesMap, PurgesTo, StopsAt, TakesFile, group_size}
use Rattle.dv_mdbox.specs.States.{IsLookedAt, State, mark_from}
use Rattle.dv_mdbox.specs.Writes.{WritesGroup, entry_of}
use Rattle.dv_mdbox.proofs.Marked.{marks_both}

-- some files and then others
purges_both : (known : Option Folder) (files more : List ℕ) (from mid to : ℕ) (m n after : Mailbox) (one two : List (List Record)) → PurgesFiles known from m files one mid n → PurgesFiles known mid n more two to after → PurgesFiles known from m (files ++ more) (one ++ two) to after
purges_both known [] more from mid to m n after one two first second =
    subst (λ (groups : List (List Record)). PurgesFiles known from m more (groups ++ two) to after) (sym first.0)
    (subst (λ (k : ℕ). PurgesFiles known k m more two to after) first.1 (subst (λ (k : Mailbox). PurgesFiles known mid k more two to after) first.2 second))
purges_both known (file ∷ files) more from mid to m n after one two first second = (
  first.0,
  ⊎_elim (λ over. inl (over.0, purges_both known files more (file + 1) mid to m n after one two over.1 second))
      (λ done. inr (done.0, done.1, done.2, done.3 ++ two, done.4, ap (λ (groups : List (List Record)). groups ++ two) done.5, purges_both known files more (file + 1) mid to done.2 n after done.3 two done.6 second)) first.1,
)

-- so have their groups room
room_both : (mark : Mark) (one two : List (List Record)) → HaveRoom mark one → HaveRoom (mark_from mark (map entry_of one)) two → HaveRoom mark (one ++ two)
room_both mark [] two first second = second
room_both mark (records ∷ one) two first second = (first.0, room_both (mark_behind true mark (record { records = records })) one two first.1 second)

module _ {S C : Type 0} (known : Option Folder) where
  -- nothing was taken
  pub none_taken : (from : ℕ) (old new : State S C) → new.chain.live.mailbox ≡ old.chain.live.mailbox → new.entries ≡ old.entries → new.mark ≡ old.mark → new.start ≡ old.start → new.chain.indexid ≡ old.chain.indexid → PurgesTo known from [] from old new
  none_taken from old new on entries mark start id = record {
    groups = [];
    goes = (refl, refl, on);
    room = tt;
    entries = entries ∙ sym (append-nil old.entries);
    mark = mark;
    start = start;
    indexid = id;
  }

  pub none_looked : (from : ℕ) (old new : State S C) → IsLookedAt old new → PurgesTo known from [] from old new
  none_looked from old new is = none_taken from old new (λ i. (is.chain i).live.mailbox) is.entries is.mark is.start (λ i. (is.chain i).indexid)

  -- one behind the other
  pub to_then : (files more : List ℕ) (from between to : ℕ) (old mid new : State S C) → PurgesTo known from files between old mid → PurgesTo known between more to mid new → PurgesTo known from (files ++ more) to old new
  to_then files more from between to old mid new one two = record {
    groups = one.groups ++ two.groups;
    goes = purges_both known files more from between to old.chain.live.mailbox mid.chain.live.mailbox new.chain.live.mailbox one.groups two.groups one.goes two.goes;
    room = room_both old.mark one.groups two.groups one.room (subst (λ (m : Mark). HaveRoom m two.groups) one.mark two.room);
    entries = two.entries ∙ ap (λ es. es ++ map entry_of two.groups) one.entries ∙ append_assoc old.entries (map entry_of one.groups) (map entry_of two.groups) ∙ ap (λ es. old.entries ++ es) (sym (map-append entry_of one.groups two.groups));
    mark = two.mark ∙ ap (λ (m : Mark). mark_from m (map entry_of two.groups)) one.mark ∙ marks_both old.mark (map entry_of one.groups) (map entry_of two.groups) ∙ ap (mark_from old.mark) (sym (map-append entry_of one.groups two.groups));
    start = two.start ∙ one.start;
    indexid = two.indexid ∙ one.indexid;
  }

  pub to_looked : (files : List ℕ) (from to : ℕ) (old mid new : State S C) → PurgesTo known from files to old mid → IsLookedAt mid new → PurgesTo known from files to old new
  to_looked files from to old mid new one is =
      subst (λ (l : List ℕ). PurgesTo known from l to old new) (append-nil files) (to_then files [] from to to old mid new one (none_looked to mid new is))

  -- a file was passed over
  pub passed_over : (from file : ℕ) (old new : State S C) → IsNextGone old.chain.live.mailbox from file → PassesKnown known old.chain.live.mailbox file → IsLookedAt old new → PurgesTo known from (file ∷ []) (file + 1) old new
  passed_over from file old new next over is = record {
    groups = [];
    goes = (next, inl (over, (refl, refl, λ i. (is.chain i).live.mailbox)));
    room = tt;
    entries = is.entries ∙ sym (append-nil old.entries);
    mark = is.mark;
    start = is.start;
    indexid = λ i. (is.chain i).indexid;
  }

  -- or its group was written
  pub group_taken : (from file new_file : ℕ) (old new : State S C) → IsNextGone old.chain.live.mailbox from file → FitsKnown known old.chain.live.mailbox file → HasRoomAt old.mark (group_size (file_records file new_file (all_mapped old.chain.live.mailbox)))
      → {T E : Type 0} (x : T) → WritesGroup (file_records file new_file (all_mapped old.chain.live.mailbox)) old new {T = T} {E = E} (Ok x) → IsRewritten old.chain.live.mailbox file new_file new.chain.live.mailbox → PurgesTo known from (file ∷ []) (file + 1) old new
  group_taken from file new_file old new next fits room x writes is = record {
    groups = file_records file new_file (all_mapped old.chain.live.mailbox) ∷ [];
    goes = (next, inr (fits, new_file, new.chain.live.mailbox, [], is, refl, (refl, refl, refl)));
    room = (room, tt);
    entries = writes.entries;
    mark = writes.mark.1;
    start = writes.start;
    indexid = writes.indexid;
  }

  pub group_missed : (records : List Record) (from : ℕ) (old new : State S C) {T E : Type 0} (e : E) → WritesGroup records old new {T = T} {E = E} (Err e) → PurgesTo known from [] from old new
  group_missed records from old new e writes = none_taken from old new writes.kept.0 writes.kept.1 writes.kept.2 writes.start writes.indexid

  -- the purge as a whole
  pub map_then : (old mid new : State S C) → PurgesTo known 0 [] 0 old mid → {T : Type 0} (result : Result T StorageFault) → PurgesMap known mid new result → PurgesMap known old new result
  map_then old mid new one (Ok x) two = (two.0, two.1, to_then [] two.0 0 0 two.1 old mid new one two.2, two.3)
  map_then old mid new one (Err e) two = (two.0, two.1, to_then [] two.0 0 0 two.1 old mid new one two.2, two.3)

  pub map_failed : (old new : State S C) → PurgesTo known 0 [] 0 old new → (e : StorageFault) → IsFailure e → PurgesMap known old new {T = Unit {0}} (Err e)
  map_failed old new one e failed = ([], 0, one, inl failed)

  pub map_err : (old new : State S C) (e f : StorageFault) → f ≡ e → PurgesMap known old new {T = Unit {0}} (Err e) → PurgesMap known old new {T = Unit {0}} (Err f)
  map_err old new e f same is = (is.0, is.1, is.2, subst (StopsAt known is.1 new) (sym same) is.3)

  -- the next file
  pub taken_more : (files : List ℕ) (from file : ℕ) (old mid new : State S C) → PurgesTo known 0 files from old mid → PurgesTo known from (file ∷ []) (file + 1) mid new → PurgesTo known 0 (files ++ file ∷ []) (file + 1) old new
  taken_more files from file old mid new one two = to_then files (file ∷ []) 0 from (file + 1) old mid new one two

  pub taken_last : (files : List ℕ) (from file : ℕ) (old mid new : State S C) → IsNextGone mid.chain.live.mailbox from file → PurgesTo known 0 files from old mid → (e f : StorageFault) → f ≡ e → TakesFile known from file mid new {T = Unit {0}} (Err e) → PurgesMap known old new {T = Unit {0}} (Err f)
  taken_last files from file old mid new next one e f same is =
      ⊎_elim
      (λ before. (
        files ++ [],
        from,
        to_then files [] 0 from from old mid new one before.0,
        ⊎_elim (λ failed. inl (subst IsFailure (sym same) failed))
            (λ stuck. inr (file, subst (λ (m : Mailbox). IsNextGone m from file) (sym before.0.goes.2) next, subst (IsStuck known new.mark new.chain.live.mailbox file) (sym same) stuck)) before.1,
      ))
      (λ behind. (files ++ file ∷ [], file + 1, to_then files (file ∷ []) 0 from (file + 1) old mid new one behind.0, inl (subst IsFailure (sym same) behind.1))) is

  -- the folder was looked at before
  pub to_from : (files : List ℕ) (from to : ℕ) (old mid new : State S C) → IsLookedAt old mid → PurgesTo known from files to mid new → PurgesTo known from files to old new
  to_from files from to old mid new is two = to_then [] files from from to old mid new (none_looked from old mid is) two

  pub takes_looked : (from file : ℕ) (old mid new : State S C) → IsLookedAt old mid → {T : Type 0} (result : Result T StorageFault) → TakesFile known from file mid new result → TakesFile known from file old new result
  takes_looked from file old mid new is (Ok x) two = to_from (file ∷ []) from (file + 1) old mid new is two
  takes_looked from file old mid new is (Err e) two =
      ⊎_elim (λ none. inl (to_from [] from from old mid new is none.0, none.1)) (λ more. inr (to_from (file ∷ []) from (file + 1) old mid new is more.0, more.1)) two

  -- nothing was taken, as memory ran out or the disk failed
  pub takes_failed : (from file : ℕ) (old new : State S C) → PurgesTo known from [] from old new → (e : StorageFault) → IsFailure e → TakesFile known from file old new {T = Unit {0}} (Err e)
  takes_failed from file old new none e failed = inl (none, inl failed)

pub next_looked : {S C : Type 0} (old mid : State S C) → IsLookedAt old mid → (from file : ℕ) → IsNextGone old.chain.live.mailbox from file → IsNextGone mid.chain.live.mailbox from file
next_looked old mid is from file next = subst (λ (k : Chain). IsNextGone k.live.mailbox from file) (sym is.chain) next
