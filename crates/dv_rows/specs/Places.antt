-- The place of a UID among rows.
use Rattle.std.specs.Prelude.{◌≡◌, ℕ, ◌<◌, ◌≤◌, true, false, List, length, nat_lt}
use Rattle.std.specs.List.{AllWithin}
use Rattle.std.specs.List.Sorted.{IsPartitionPoint}
use Rattle.dv_model.specs.declared.types.Row.{Row}

-- the rows before it have UIDs below this one, and those from it on have not
abbrev pub IsPlace : List Row → ℕ → ℕ → Type 0
IsPlace rows uid at = IsPartitionPoint (λ (row : Row). nat_lt row.uid uid ≡ true) (λ (row : Row). nat_lt row.uid uid ≡ false) rows at

-- all rows before the one place have UIDs below this one, and none from the other on has
pub record AreBounds (rows : List Row) (uid low high : ℕ) : Type 0 where
  pub order : low ≤ high
  pub inside : high ≤ length rows
  pub before : AllWithin (λ (row : Row). row.uid < uid) rows 0 low
  pub behind : AllWithin (λ (row : Row). uid ≤ row.uid) rows high (length rows)
