-- What each step on a roll changes in the view of its seat.
use Rattle.std.specs.Prelude.{◌≡◌, ◌⊎◌, ℕ, true, false, List, [], ◌∷◌, ◌++◌}
use mathlib.Core.List.{IsPrefix}
use Rattle.atomic_table.specs.Seated.{TableId}
use Rattle.atomic_table.specs.Table.{Step, Me}
use Rattle.dv_front.specs.declared.roll_rule.RollView.{RollView}
use Rattle.dv_front.specs.Lists.{longer}

-- the one view of a new roll
abbrev pub first_view : RollView
first_view = record { live = true; rolls = true; own = []; told = [] }

-- what is left of a view that another took in
abbrev pub spent_view : RollView
spent_view = record { live = false; rolls = false; own = []; told = [] }

-- a leaf's view that knows as much
abbrev pub leaf_of : RollView → RollView
leaf_of v = record { live = v.live; rolls = false; own = v.own; told = v.own }

-- a view that was told what another knows
abbrev pub hearing : RollView → RollView → RollView
hearing v other = record v { told = other.own }

-- a view that knows these items, and was told nothing else
abbrev pub knowing : RollView → List TableId → RollView
knowing v items = record v { own = items; told = items }

-- a table was appended
abbrev pub Appended : TableId → Step ℕ → Me ℕ RollView → ℕ → Me ℕ RollView → Type 0
Appended t s me n after = after ≡ (knowing me.0 (me.0.own ++ t ∷ []), me.1)

-- what was told and what is known are of one list, and the seat that appends knows all that was told
pub record ItemsCompared (s : Step ℕ) (me : Me ℕ RollView) (n : ℕ) (after : Me ℕ RollView) : Type 0 where
  pub either : IsPrefix me.0.told me.0.own ⊎ IsPrefix me.0.own me.0.told
  pub rolls : me.0.rolls ≡ true → IsPrefix me.0.told me.0.own
  pub now : after ≡ (knowing me.0 me.0.own, me.1)

-- what was told is known too
pub record ItemsLearned (s : Step ℕ) (me : Me ℕ RollView) (n : ℕ) (after : Me ℕ RollView) : Type 0 where
  pub own : IsPrefix me.0.own after.0.own
  pub told : IsPrefix me.0.told after.0.own
  pub now : after ≡ (knowing me.0 (longer me.0.own me.0.told), me.1)
