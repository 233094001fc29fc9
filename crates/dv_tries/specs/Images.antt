-- What a crash may have left since a run began. The record takes what a shelf shows.
use Rattle.std.specs.Prelude.{◌⊎◌, ◌≤◌, ℕ}
use Rattle.dv_shelf.specs.Folders.{Folder}
use Rattle.dv_shelf.specs.Sees.{SeesFolder}

-- Since a moment a crash has left only folders that have P; and since an earlier one those, or what
-- it might have left by then.
pub record LeavesSince {S : Type 0} (sees : SeesFolder S) (moment : ℕ)
    (past : ℕ → Folder → Type 0) (new : S) (P : Folder → Type 0) : Type 0 where
  pub later : moment ≤ sees.moment new
  pub each : (c : Folder) → sees.left_since new moment c → P c
  pub before : (t : ℕ) (c : Folder) → t ≤ moment → sees.left_since new t c → past t c ⊎ P c
