-- Where a storage's log ends, by the mark behind its groups.
use Rattle.std.proofs.Common.{◌≡◌, ◌⊎◌, inl, inr, ⊎_elim, ℕ, ◌+◌, ◌<◌, ◌≤◌, ◌&&◌, Bool, true, false, List, ◌++◌, length, Option, Some, None, is_some, Result, Ok, Err, refl, sym, ◌∙◌, ap, subst, arith}
use Rattle.std.specs.Prelude.{IfErr, IsSome, flat_map, is_none, nat_le, nat_lt, not, if◌then◌else◌}
use Rattle.std.proofs.lemmas.Bool.{cases_lt}
use Rattle.std.proofs.lemmas.Bool.Decides.{nat_tests}
use Rattle.std.proofs.lemmas.List.Sums.{fold-append}
use Rattle.dv_model.specs.declared.types.Entry.{Entry}
use Rattle.dv_model.specs.declared.types.Mark.{Mark}
use Rattle.dv_model.specs.declared.types.Record.{Record}
use Rattle.dv_model.specs.Journals.{header_size, is_rotation_due, last_file_seq, mark_behind, rotate_at}
use Rattle.dv_model.specs.Sessions.{group_limit, is_log_full, log_limit}
use Rattle.dv_model.specs.Spelling.{written}
use Rattle.dv_chain.specs.declared.chain.Chain.{Chain}
use Rattle.dv_plans.specs.Begins.{beginning, turns}
use Rattle.dv_files.specs.declared.texts.Turn.{Turn}
use Rattle.dv_files.specs.Texts.{place_of}
use Rattle.dv_writing.specs.Repairing.{Repairs}
use Rattle.dv_writing.specs.Ways.{IsDue, StopsOnWay, repaired}
use Rattle.dv_mdbox.specs.declared.fault.StorageFault.{StorageFault}
use Rattle.dv_mdbox.specs.declared.fault.StorageFault.TheVariants as fault
use Rattle.dv_mdbox.specs.Answers.{HasRoom, IsFailure, IsFull}
use Rattle.dv_mdbox.specs.Purging.{FindsRoomAt, HasRoomAt, LacksRoomAt}
use Rattle.dv_mdbox.specs.States.{StandsAt, mark_from, next_file}
use Rattle.dv_mdbox.specs.Writes.{begin_of, mark_after}

-- ---- where the next group begins

-- by the mark
abbrev begin_at : Mark → Mark
begin_at mark = if is_rotation_due true mark then next_file mark else mark

-- in a new file no rotation is due
new_not_due : (mark : Mark) → is_rotation_due true (next_file mark) ≡ false
new_not_due mark = refl

begins_due : (due : Bool) (mark : Mark) (chain : Chain) → place_of chain ≡ mark → beginning due chain ≡ (if due then next_file mark else mark)
begins_due true mark chain at = ap next_file at
begins_due false mark chain at = at

begin_due : (mark : Mark) → is_rotation_due true mark ≡ true → begin_at mark ≡ next_file mark
begin_due mark due = ap (λ (b : Bool). if b then next_file mark else mark) due

begins_here : (mark : Mark) (owed : Option Turn) (chain : Chain) → place_of chain ≡ mark → owed ≡ None → begin_of owed chain ≡ begin_at mark
begins_here mark owed chain at none =
    ap (λ (o : Option Turn). begin_of o chain) none ∙ ap (λ (m : Mark). beginning (is_rotation_due true m) chain) at ∙ begins_due (is_rotation_due true mark) mark chain at

begins_new : (mark : Mark) (owed : Option Turn) (chain : Chain) → place_of chain ≡ next_file mark → owed ≡ None → begin_of owed chain ≡ next_file mark
begins_new mark owed chain at none = begins_here (next_file mark) owed chain at none

begins_owed : (mark : Mark) (owed : Option Turn) (chain : Chain) → place_of chain ≡ mark → IsSome owed → begin_of owed chain ≡ next_file mark
begins_owed mark None chain at some = absurd cc
begins_owed mark (Some turn) chain at some = ap next_file at

pub begins_at : (mark : Mark) (owed : Option Turn) (chain : Chain) → StandsAt mark (place_of chain) owed → begin_of owed chain ≡ begin_at mark
begins_at mark owed chain =
    ⊎_elim (λ here. begins_here mark owed chain here.0 here.1)
    (λ begun. ⊎_elim (λ owes. begins_owed mark owed chain owes.0 owes.1) (λ new. begins_new mark owed chain new.0 new.1) begun.1 ∙ sym (begin_due mark begun.0))

-- the place behind records
behind_at : (mark : Mark) (records : List Record) → mark_after (begin_at mark) (length (flat_map written records)) ≡ mark_behind true mark (record { records = records })
behind_at mark records = by_due (is_rotation_due true mark)
  where
    size : ℕ
    size = length (flat_map written records)

    by_due : (b : Bool) → mark_after (if b then next_file mark else mark) size ≡ (if b then record { file_seq = mark.file_seq + 1; offset = header_size + size } else record mark { offset = mark.offset + size })
    by_due true = refl
    by_due false = refl

pub behind_group : (mark : Mark) (owed : Option Turn) (chain : Chain) (records : List Record) → StandsAt mark (place_of chain) owed → mark_after (begin_of owed chain) (length (flat_map written records)) ≡ mark_behind true mark (record { records = records })
behind_group mark owed chain records stands = ap (λ (m : Mark). mark_after m (length (flat_map written records))) (begins_at mark owed chain stands) ∙ behind_at mark records

-- ---- behind a failure

-- a rotation that is due is due at the mark
due_at : (mark : Mark) (owed : Option Turn) (chain : Chain) → StandsAt mark (place_of chain) owed → turns owed chain ≡ true → owed ≡ None → (place_of chain ≡ mark) × (is_rotation_due true mark ≡ true)
due_at mark owed chain stands turn none =
    let due : is_rotation_due true (place_of chain) ≡ true = sym (ap (λ (o : Option Turn). is_none o && is_rotation_due true (place_of chain)) none) ∙ turn in
    ⊎_elim (λ here. (here.0, sym (ap (is_rotation_due true) here.0) ∙ due))
    (λ begun.
    ⊎_elim (λ owes. (owes.0, begun.0)) (λ new. absurd (differ (sym (ap (is_rotation_due true) new.0 ∙ new_not_due mark) ∙ due))) begun.1) stands
  where
    differ : false ≡ true → ⊥
    differ e = cc

turn_of : (turn : Option Turn) → IsSome turn → (t : Turn) × (turn ≡ Some t)
turn_of (Some t) some = (t, refl)
turn_of None some = absurd cc

repaired_place : (chain : Chain) → place_of (repaired None chain) ≡ place_of chain
repaired_place chain = refl

-- on the way to a group's place
pub stops_at : (mark : Mark) (owed left turn : Option Turn) (old new : Chain) → StandsAt mark (place_of old) owed → IsDue owed old turn → is_some turn ≡ turns owed old → StopsOnWay owed left turn old new → StandsAt mark (place_of new) left
stops_at mark owed left turn old new stands due is =
    ⊎_elim (λ same. subst (λ (k : Chain). StandsAt mark (place_of k) left) (sym same.0) (subst (StandsAt mark (place_of old)) (sym same.1) stands))
    (λ way.
    let some = turn_of turn way.1 in
    let none : owed ≡ None = (subst (IsDue owed old) some.1 due).2 in
    let at = due_at mark owed old stands (sym is ∙ ap (λ (o : Option Turn). is_some o) some.1) none in
    let place : place_of new ≡ mark = ap place_of way.0 ∙ ap (λ (o : Option Turn). place_of (repaired o old)) none ∙ at.0 in
    ⊎_elim (λ nothing. inl (place, nothing)) (λ kept. inr (at.1, inl (place, subst IsSome (sym kept) way.1))) way.2)

-- where the group begins
pub begun_at : (mark : Mark) (place : Mark) (left : Option Turn) → place ≡ begin_at mark → left ≡ None → StandsAt mark place left
begun_at mark place left at none = by (is_rotation_due true mark) refl
  where
    by : (b : Bool) → is_rotation_due true mark ≡ b → StandsAt mark place left
    by true due = inr (due, inr (at ∙ begin_due mark due, none))
    by false due = inl (at ∙ ap (λ (b : Bool). if b then next_file mark else mark) due, none)

-- ---- behind a repair

pub paid_at : (mark : Mark) (owed left : Option Turn) (old new : Chain) {T E : Type 0} (result : Result T E) → StandsAt mark (place_of old) owed → Repairs owed left old new result → StandsAt mark (place_of new) left
paid_at mark None left old new (Ok x) stands paid =
    let place : place_of new ≡ place_of old = λ i. record { file_seq = paid.chain.log.0 i; offset = paid.chain.log.1 i } in
    subst (λ (p : Mark). StandsAt mark p left) (sym place) (subst (StandsAt mark (place_of old)) (sym paid.paid.1) stands)
paid_at mark owed left old new (Err e) stands paid = subst (λ (k : Chain). StandsAt mark (place_of k) left) (sym paid.failed.0) (subst (StandsAt mark (place_of old)) (sym paid.failed.1) stands)
paid_at mark (Some turn) left old new (Ok x) stands paid =
    ⊎_elim (λ here. absurd (owes here.1))
    (λ begun. ⊎_elim (λ at. inr (begun.0, inr (ap place_of paid.chain ∙ ap next_file at.0, paid.paid.1))) (λ other. absurd (owes other.1)) begun.1) stands
  where
    owes : Some turn ≡ None → ⊥
    owes e = cc

-- ---- groups one behind another

pub marks_both : (mark : Mark) (one two : List Entry) → mark_from (mark_from mark one) two ≡ mark_from mark (one ++ two)
marks_both mark one two = sym (fold-append (λ (m : Mark) (e : Entry). mark_behind true m e.group) mark one two)

-- ---- room for a group

and_false : (b : Bool) → (b && false) ≡ false
and_false true = refl
and_false false = refl

and_second : (a b : Bool) → (a && b) ≡ true → b ≡ true
and_second true b both = both
and_second false b both = absurd cc

-- a short group has room in a new file
new_room : (mark : Mark) (size : ℕ) → size ≤ group_limit → is_log_full true (next_file mark) size ≡ false
new_room mark size short =
    let low : nat_lt log_limit (header_size + size) ≡ false = grind (arith, nat_tests, short) in
    (λ i. not (nat_lt (mark.file_seq + 1) last_file_seq) && low i) ∙ and_false (not (nat_lt (mark.file_seq + 1) last_file_seq))

-- and so it has where a rotation is due
due_room : (mark : Mark) (size : ℕ) → is_rotation_due true mark ≡ true → is_log_full true mark size ≡ false
due_room mark size due =
    let later : nat_lt mark.file_seq last_file_seq ≡ true = and_second (nat_le rotate_at mark.offset) (nat_lt mark.file_seq last_file_seq) due in
    λ i. not (later i) && nat_lt log_limit (mark.offset + size)

room_same : (mark : Mark) (owed : Option Turn) (place : Mark) (size : ℕ) → StandsAt mark place owed → size ≤ group_limit → is_log_full true place size ≡ is_log_full true mark size
room_same mark owed place size stands short =
    ⊎_elim (λ here. ap (λ (m : Mark). is_log_full true m size) here.0)
    (λ begun.
    ⊎_elim (λ owes. ap (λ (m : Mark). is_log_full true m size) owes.0)
    (λ new. ap (λ (m : Mark). is_log_full true m size) new.0 ∙ new_room mark size short ∙ sym (due_room mark size begun.0)) begun.1) stands

module _ (mark : Mark) (owed : Option Turn) (chain : Chain) (size : ℕ) (stands : StandsAt mark (place_of chain) owed) where
  pub has_at : (size ≤ group_limit) × HasRoom chain size → HasRoomAt mark size
  has_at fits = (fits.0, sym (room_same mark owed (place_of chain) size stands fits.0) ∙ fits.1)

  pub lacks_at : (group_limit < size) ⊎ IsFull chain size → LacksRoomAt mark size
  lacks_at = ⊎_elim inl (λ full. by_size full (cases_lt group_limit size))
    where
      by_size : IsFull chain size → (group_limit < size) ⊎ (size ≤ group_limit) → LacksRoomAt mark size
      by_size full = ⊎_elim inl (λ short. inr (sym (room_same mark owed (place_of chain) size stands short) ∙ full))

-- what a write answers behind it
pub found_room : (mark : Mark) (size : ℕ) {A : Type 0} (result : Result A StorageFault) → HasRoomAt mark size → IfErr result IsFailure → FindsRoomAt mark size result
found_room mark size (Ok x) room failure = room
found_room mark size (Err (fault.Disk faults)) room failure = room
found_room mark size (Err fault.NoMemory) room failure = tt
found_room mark size (Err fault.None) room failure = absurd failure
found_room mark size (Err fault.Full) room failure = absurd failure
found_room mark size (Err fault.Ids) room failure = absurd failure
found_room mark size (Err fault.Files) room failure = absurd failure
found_room mark size (Err (fault.TooLong bytes)) room failure = absurd failure
