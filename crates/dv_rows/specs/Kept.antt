-- The rows of a mailbox as they are kept.
use Rattle.std.specs.Prelude.{◌≡◌, ℕ, ◌-◌, ◌^◌, ◌<◌, List, not, map, All, count_by, nat_eq, bit_and}
use Rattle.std.specs.List.Sorted.{IsStrictlyIncreasing}
use Rattle.dv_model.specs.declared.types.Row.{Row}
use Rattle.dv_rows.specs.Noted.{IsTally}
use Rattle.dv_rows.specs.declared.counts.Counts.{Counts}

-- rows, and how many more can be added without memory
pub record Kept : Type 0 where
  pub rows : List Row
  pub room : ℕ

-- UIDs are assigned in a strictly ascending fashion (RFC 3501, section 2.3.1.1), and the largest number is none
pub record AreRows (rows : List Row) : Type 0 where
  pub rising : IsStrictlyIncreasing (map (λ row. row.uid) rows)
  pub below : All (λ row. row.uid < 2 ^ 32 - 1) rows

-- how many rows have the flag
abbrev pub flag_count : ℕ → List Row → ℕ
flag_count bit rows = count_by (λ row. not (nat_eq (bit_and row.flags bit) 0)) rows

-- each row's flags stand beside it, and the numbers of rows with Seen and with Deleted are at hand
pub record AreCounted (rows : List Row) (notes : List ℕ) (counts : Counts) : Type 0 where
  pub are : AreRows rows
  pub flags : notes ≡ map (λ row. row.flags) rows
  pub tally : IsTally counts notes
