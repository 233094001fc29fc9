-- Bytes are of a snapshot, or they have a fault.
use Rattle.std.proofs.Common.{◌≡◌, ◌⊎◌, inl, inr, ℕ, zero, suc, ◌+◌, ◌*◌, ◌<◌, ◌≤◌, List, length, Option, refl, subst, arith}
use Rattle.std.proofs.lemmas.Bool.{cases_lt}
use Rattle.std.proofs.lemmas.List.{get_or_past}
use Rattle.dv_model.specs.declared.types.Current.{Current}
use Rattle.dv_model.specs.declared.types.Extension.{Extension}
use Rattle.dv_model.specs.declared.types.Mailbox.{Mailbox}
use Rattle.dv_model.specs.declared.types.Mark.{Mark}
use Rattle.dv_model.specs.declared.types.Row.{Row}
use Rattle.dv_formats.specs.Snapshots.{AreBytes, IsSnapshot, row_size}
use Rattle.dv_formats.specs.SnapshotFaults.{AreTables, Counts, First, HasCurrent, HasFlagCounts, HasNumbers, HasRecords, IsFault, IsInOrder, IsKnown, IsOrderFault, IsRowFault, IsTableFault, Order, Short, SnapshotFault, Version, head_of, highest_at, mark_at, other_byte, record_place, uid_at, uid_before, version_at, word_at}
use Rattle.dv_formats.proofs.Faults.{tables_one}
use Rattle.dv_formats.proofs.Passing.{Passes}
use Rattle.dv_formats.proofs.Passed.{IsBytes, passed_is_snapshot}

-- ---- a snapshot has no fault

first_later : (P : Type 0) (own f : SnapshotFault) (L : Type 0) → P → First P own f L → L
first_later P own f L p (inl failed) = absurd (failed.0 p)
first_later P own f L p (inr later) = later.1

module _ (m : Mailbox) (b : List ℕ) (is : Passes m b) where
  no_row_fault : (f : SnapshotFault) → IsRowFault (head_of m.keywords m.extensions b) f b → ⊥
  no_row_fault f fault =
      let one = first_later (word_at 8 b ≡ row_size (version_at b) (head_of m.keywords m.extensions b)) (Counts 3) f _ is.size fault in
      let two = first_later (length b ≡ word_at 4 b + word_at 8 b * word_at 32 b) (Counts 4) f _ is.end one in
      let three = first_later (HasCurrent (head_of m.keywords m.extensions b) b) (Counts 5) f _ (m.current, is.current) two in
      let four = first_later (HasRecords (head_of m.keywords m.extensions b) b) (Counts 6) f _ (m.rows, is.rows) three in
      let five = first_later (HasFlagCounts b) (Counts 7) f (IsOrderFault f b) is.counts four in
      five.1.here (is.order five.0 five.1.below)

  no_table_fault : (f : SnapshotFault) → IsTableFault f b → ⊥
  no_table_fault f (inl none) = none.0 m.keywords m.extensions is.tables
  no_table_fault f (inr (names, es, are, fault)) =
      let same = tables_one names m.keywords es m.extensions b are is.tables in
      no_row_fault f (subst (λ ns. IsRowFault (head_of ns m.extensions b) f b) same.0 (subst (λ xs. IsRowFault (head_of names xs b) f b) same.1 fault))

  pub no_fault : (f : SnapshotFault) → IsFault f b → ⊥
  no_fault f fault =
      let one = first_later (120 ≤ length b) (Short (length b)) f _ is.long fault in
      let two = first_later (IsKnown b) (Version (other_byte b)) f _ is.known one in
      no_table_fault f (first_later (HasNumbers b) (Counts 1) f (IsTableFault f b) is.numbers two)

-- ---- without a fault there is a snapshot

order_test : (k : ℕ) (b : List ℕ) → IsInOrder k b ⊎ (IsInOrder k b → ⊥)
order_test k b =
    elim (cases_lt (uid_before k b) (uid_at k b)) [
      | inl above ↦ elim (cases_lt (uid_at k b) (word_at 28 b)) [ inl below ↦ inl (above, below) | inr past ↦ inr (λ order. let low = order.1 in omega (arith, low, past)) ]
      | inr not_above ↦ inr (λ order. let high = order.0 in omega (arith, high, not_above))
    ]

in_order : (b : List ℕ) → ((f : SnapshotFault) → IsOrderFault f b → ⊥) → (n : ℕ) → n ≤ word_at 32 b → (j : ℕ) → j < n → IsInOrder j b
in_order b none zero le j below = absurd (omega (arith, below))
in_order b none (suc n) le j below =
    let before = in_order b none n (omega (arith, le)) in
    elim (cases_lt j n) [
      | inl less ↦ before j less
      | inr from ↦ elim (order_test j b) [
        | inl order ↦ order
        | inr bad ↦ absurd (none (Order (record_place j b)) (j, record { below = omega (arith, below, le); before = λ i lower. before i (omega (arith, lower, below)); here = bad }, refl))
      ]
    ]

abbrev mailbox_of : List (List ℕ) → List Extension → Option Current → List Row → List ℕ → Mailbox
mailbox_of names es current rows b =
    record { uid_validity = word_at 24 b; next_uid = word_at 28 b; rows = rows; keywords = names; extensions = es; current = current; highest = highest_at b }

byte_of : (b : List ℕ) → AreBytes b → IsBytes b
byte_of b are i = elim (cases_lt i (length b)) [ inl below ↦ are i 0 below | inr past ↦ let none = get_or_past b i 0 past in omega (arith, none) ]

module _ (b : List ℕ) (are : AreBytes b) (none : (f : SnapshotFault) → IsFault f b → ⊥) (no_snapshot : (version : ℕ) (m : Mailbox) (indexid : ℕ) (mark : Mark) → IsSnapshot version m indexid mark b → ⊥) where
  module _ (long : 120 ≤ length b) (known : IsKnown b) (numbers : HasNumbers b) where
    module _ (names : List (List ℕ)) (es : List Extension) (tables : AreTables names es b) where
      none_behind : (f : SnapshotFault) → IsRowFault (head_of names es b) f b → ⊥
      none_behind f fault = none f (inr (long, inr (known, inr (numbers, inr (names, es, tables, fault)))))

      rows_pass : word_at 8 b ≡ row_size (version_at b) (head_of names es b) → length b ≡ word_at 4 b + word_at 8 b * word_at 32 b → HasCurrent (head_of names es b) b → HasRecords (head_of names es b) b → HasFlagCounts b → ⊥
      rows_pass size end current rows counts =
          let ordered : (k : ℕ) → k < word_at 32 b → IsInOrder k b =
          in_order b (λ f fault. none_behind f (inr (size, inr (end, inr (current, inr (rows, inr (counts, fault))))))) (word_at 32 b) (omega arith) in
          let passes : Passes (mailbox_of names es current.0 rows.0 b) b =
          record { long = long; known = known; numbers = numbers; tables = tables; size = size; end = end; current = current.1; rows = rows.1; counts = counts; order = ordered } in
          no_snapshot (version_at b) (mailbox_of names es current.0 rows.0 b) (word_at 16 b) (mark_at b)
          (passed_is_snapshot (mailbox_of names es current.0 rows.0 b) b (byte_of b are) (record { validity = refl; next_uid = refl; highest = refl }) passes)

      at_rows : word_at 8 b ≡ row_size (version_at b) (head_of names es b) → length b ≡ word_at 4 b + word_at 8 b * word_at 32 b → HasCurrent (head_of names es b) b → HasRecords (head_of names es b) b → ⊥
      at_rows size end current rows = none_behind (Counts 7) (inr (size, inr (end, inr (current, inr (rows, inl (rows_pass size end current rows, refl))))))

      at_current : word_at 8 b ≡ row_size (version_at b) (head_of names es b) → length b ≡ word_at 4 b + word_at 8 b * word_at 32 b → HasCurrent (head_of names es b) b → ⊥
      at_current size end current = none_behind (Counts 6) (inr (size, inr (end, inr (current, inl (at_rows size end current, refl)))))

      at_end : word_at 8 b ≡ row_size (version_at b) (head_of names es b) → length b ≡ word_at 4 b + word_at 8 b * word_at 32 b → ⊥
      at_end size end = none_behind (Counts 5) (inr (size, inr (end, inl (at_current size end, refl))))

      at_size : word_at 8 b ≡ row_size (version_at b) (head_of names es b) → ⊥
      at_size size = none_behind (Counts 4) (inr (size, inl (at_end size, refl)))

      at_tables : ⊥
      at_tables = none_behind (Counts 3) (inl (at_size, refl))

    at_numbers : ⊥
    at_numbers = none (Counts 2) (inr (long, inr (known, inr (numbers, inl (at_tables, refl)))))

  at_known : 120 ≤ length b → IsKnown b → ⊥
  at_known long known = none (Counts 1) (inr (long, inr (known, inl (at_numbers long known, refl))))

  at_long : 120 ≤ length b → ⊥
  at_long long = none (Version (other_byte b)) (inr (long, inl (at_known long, refl)))

  pub some_outcome : ⊥
  some_outcome = none (Short (length b)) (inl (at_long, refl))
