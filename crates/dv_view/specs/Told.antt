-- How far the changes have been told.
use Rattle.std.specs.Prelude.{◌≡◌, ℕ, ◌+◌, ◌≤◌, ◌<◌, Bool, true, is_some, ◌&&◌, not, List, [], ◌∷◌, ◌++◌, drop, length, map, nat_eq, if◌then◌else◌}
use Rattle.std.specs.List.Sorted.{IsPartitionPoint}
use Rattle.dv_model.specs.declared.types.Fresh.{Fresh}
use Rattle.dv_model.specs.declared.types.Shown.{Shown}
use Rattle.dv_model.specs.declared.types.Step.{Step}
use Rattle.dv_model.specs.declared.types.Step.TheVariants.{Held, Full}
use Rattle.dv_view.specs.declared.telling.Telling.{Telling}
use Rattle.dv_view.specs.declared.telling.Told.{Told}
use Rattle.dv_view.specs.Following.{rows_after}
use Rattle.dv_view.specs.Tells.{shows_all, told_rows}

-- the rows before this place are those before the UID
abbrev pub IsPlace : List Shown → ℕ → ℕ → Type 0
IsPlace rows uid at = (at ≤ length rows) × IsPartitionPoint (λ (s : Shown). s.uid < uid) (λ (s : Shown). uid ≤ s.uid) rows at

-- the rows behind the UID's, where that is the first one
abbrev pub without : ℕ → List Shown → List Shown
without uid [] = []
without uid (s ∷ rows) = if nat_eq s.uid uid then rows else s ∷ rows

-- a step tells of this change
abbrev pub tells : Step → Fresh → Bool
tells Held f = is_some f.row
tells Full f = true

-- a row of which is told, with its number
abbrev pub row_of : Told → ℕ × Shown
row_of t = (t.number, t.row.now)

-- what was told, where the old rows become the new ones and the last of these alone are left
pub record GoesOn (old new rest : List Shown) (told : Telling) : Type 0 where
  pub changes : map row_of told.told.items ++ told_rows old told.number rest ≡ told_rows old 1 new
  pub growth : (not told.grows && shows_all old rest) ≡ shows_all old new
  pub count : told.number + length rest ≡ 1 + length new

-- the changes before this place were told
pub record IsToldTo (step : Step) (rows : List Shown) (fresh : List Fresh) (at : ℕ) (told : Telling) : Type 0 where
  pub inside : told.from ≤ length rows
  pub rest : GoesOn rows (rows_after step rows fresh) (rows_after step (drop told.from rows) (drop at fresh)) told
