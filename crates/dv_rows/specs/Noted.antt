-- Rows with a number beside each, and what is done to those in ranges of UIDs.
use Rattle.std.specs.Prelude.{◌≡◌, ℕ, ◌&&◌, Bool, List, [], ◌∷◌, fold, not, count_by, nat_eq, nat_le, bit_and, if◌then◌else◌}
use Rattle.dv_model.specs.declared.types.Row.{Row}
use Rattle.dv_rows.specs.declared.counts.Counts.{Counts}

-- a row, and the number beside it: its flags as they were counted
pub record Noted : Type 0 where
  pub row : Row
  pub note : ℕ

-- the number is put beside the row
abbrev pub with_note : Row → ℕ → Noted
with_note row note = record { row = row; note = note }

-- each row with its number
abbrev pub noted : List Row → List ℕ → List Noted
noted [] notes = []
noted (row ∷ rows) [] = []
noted (row ∷ rows) (note ∷ notes) = with_note row note ∷ noted rows notes

-- the range has the UID; both its ends count
abbrev pub has : {X : Type 0} → (X → ℕ) → (X → ℕ) → ℕ → X → Bool
has first last uid range = nat_le (first range) uid && nat_le uid (last range)

-- what a range does to a row that it has
abbrev pub by_range : {X : Type 0} → (X → ℕ) → (X → ℕ) → (X → Noted → Noted) → Noted → X → Noted
by_range first last after p range = if has first last p.row.uid range then after range p else p

-- the ranges in turn
abbrev pub by_ranges : {X : Type 0} → (X → ℕ) → (X → ℕ) → (X → Noted → Noted) → List X → Noted → Noted
by_ranges first last after ranges p = fold (by_range first last after) p ranges

-- how many of these flags have the bit
abbrev pub note_count : ℕ → List ℕ → ℕ
note_count bit notes = count_by (λ note. not (nat_eq (bit_and note bit) 0)) notes

-- how many of these flags have Seen, and how many Deleted
pub record IsTally (counts : Counts) (notes : List ℕ) : Type 0 where
  pub seen : counts.seen ≡ note_count 8 notes
  pub deleted : counts.deleted ≡ note_count 4 notes
