-- The laws of a shelf hold of one that stops: those of the inner shelf give them.
use Rattle.std.proofs.Common.{ℕ, ◌≤◌, Option, Some, None, inl, inr, ⊎_elim}
use Rattle.std.specs.declared.snapshot.Snapshot.{Snapshot}
use Rattle.dv_shelf.specs.Folders.{Folder}
use Rattle.dv_shelf.specs.Sees.{SeesFolder}
use Rattle.dv_stopping.specs.Stops.{left_by, moment_by, since_by}

module _ {S : Type 0} (sees : SeesFolder S) where
  -- the law of the inner shelf
  abbrev pub LeavesFiles : Type 0
  LeavesFiles = (s : S) → sees.tells → sees.may_leave s (sees.files s)

  abbrev pub CountsNow : Type 0
  CountsNow = (s : S) (t : ℕ) (c : Folder) → t ≤ sees.moment s → sees.may_leave s c
      → sees.left_since s t c

  abbrev pub OnlyNow : Type 0
  OnlyNow = (s : S) (c : Folder) → sees.tells → sees.left_since s (sees.moment s) c
      → sees.may_leave s c

  pub files_left : LeavesFiles → (stop : Option (Snapshot S)) (inner : S) → sees.tells
      → left_by sees stop inner (sees.files inner)
  files_left law None inner tells = law inner tells
  files_left law (Some before) inner tells = inr (inl (law inner tells))

  pub left_now : CountsNow → (stop : Option (Snapshot S)) (inner : S) (t : ℕ) (c : Folder)
      → t ≤ moment_by sees stop inner → left_by sees stop inner c → since_by sees stop inner t c
  left_now law None inner t c le left = law inner t c le left
  left_now law (Some before) inner t c le left =
      ⊎_elim (λ is. inl (law before.value t c le is)) inr left

  pub left_last : OnlyNow → (stop : Option (Snapshot S)) (inner : S) (c : Folder) → sees.tells
      → since_by sees stop inner (moment_by sees stop inner) c → left_by sees stop inner c
  left_last law None inner c tells left = law inner c tells left
  left_last law (Some before) inner c tells left =
      ⊎_elim (λ is. inl (law before.value c tells is)) inr left
