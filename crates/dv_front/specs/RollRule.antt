-- The rule of a roll: its word is the number of items, and each seat knows the first of them.
use Rattle.std.specs.Prelude.{◌≡◌, ℕ, true, List, [], ◌∷◌, length}
use mathlib.Core.Option.{some}
use mathlib.Core.List.{IsPrefix}
use lib.ListN.{get_elem?}
use Rattle.atomic_table.specs.Seated.{TableId}
use Rattle.dv_front.specs.declared.roll_rule.RollView.{RollView}

-- a seat's view, where it isn't spent: it knows the first items, and the one that appends knows all
pub record FitsRoll (seat : ℕ) (all : List TableId) (id : ℕ) (v : RollView) : Type 0 where
  pub own : IsPrefix v.own all
  pub told : IsPrefix v.told all
  pub rolls : v.rolls ≡ true → (id ≡ seat) × (v.own ≡ all)

-- the word is the number of items, and each view that isn't spent fits
pub record IsRoll (words : List ℕ) (views : List RollView) : Type 0 where
  pub seat : ℕ
  pub items : List TableId
  pub words_are : words ≡ length items ∷ []
  pub fits : (id : ℕ) (v : RollView) → get_elem? views id ≡ some v → v.live ≡ true → FitsRoll seat items id v
