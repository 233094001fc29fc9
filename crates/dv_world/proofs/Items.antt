-- Two lists are one, item by item from the front.
use Rattle.std.proofs.Common.{◌≡◌, suc, Bool, true, false, List, [], ◌∷◌, length, refl, ap}
use Rattle.std.specs.Prelude.{◌&&◌}
use Rattle.dv_interleavings.specs.Worlds.{same_items}

module _ {X : Type 0} (same : X → X → Bool) where
  -- lists of other lengths are others
  pub other_lengths : (xs ys : List X) → (length xs ≡ length ys → ⊥) → same_items same xs ys ≡ false
  other_lengths [] [] differs = absurd (differs refl)
  other_lengths [] (y ∷ ys) differs = refl
  other_lengths (x ∷ xs) [] differs = refl
  other_lengths (x ∷ xs) (y ∷ ys) differs = by_first (same x y) (other_lengths xs ys (λ e. differs (ap suc e)))
    where
      by_first : (b : Bool) → same_items same xs ys ≡ false → (b && same_items same xs ys) ≡ false
      by_first true e = e
      by_first false e = refl
