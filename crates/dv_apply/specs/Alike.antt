-- Rows of which only the parts are others.
use Rattle.std.specs.Prelude.{◌≡◌, ℕ, ◌≤◌, List, map, IfSome, slice_get, length}
use Rattle.dv_model.specs.declared.types.Row.{Row}

-- each row is one before it, with the same UID, flags and keywords
pub record IsAlike (rows new : List Row) : Type 0 where
  pub change : Row → Row
  pub uid : (row : Row) → (change row).uid ≡ row.uid
  pub flags : (row : Row) → (change row).flags ≡ row.flags
  pub keywords : (row : Row) → (change row).keywords ≡ row.keywords
  pub is : new ≡ map change rows

-- the row's part at this place, where it has one, has so many bytes or more
abbrev pub IsWide : ℕ → ℕ → Row → Type 0
IsWide place size row = IfSome (slice_get row.parts place) (λ part. size ≤ length part)
