-- Lists that are looked up after a map.
use Rattle.std.proofs.Common.{◌≡◌, Bool, true, false, cond, List, [], ◌∷◌, map, Option, Some, None, refl, sym, ◌∙◌, ap}
use Rattle.std.specs.Prelude.{find, option_map}

module _ {X Y : Type 0} (f : X → Y) (p : Y → Bool) where
  pub find_map : (xs : List X) → find p (map f xs) ≡ option_map f (find (λ x. p (f x)) xs)
  find_map [] = refl
  find_map (x ∷ xs) = by_test (p (f x)) (find_map xs)
    where
      by_test : (b : Bool) → find p (map f xs) ≡ option_map f (find (λ x. p (f x)) xs)
          → cond b (Some (f x)) (find p (map f xs)) ≡ option_map f (cond b (Some x) (find (λ x. p (f x)) xs))
      by_test true rest = refl
      by_test false rest = rest

-- what is found passes
pub find_passes : {X : Type 0} (p : X → Bool) (xs : List X) (x : X) → find p xs ≡ Some x → p x ≡ true
find_passes p [] x e = absurd cc
find_passes p (y ∷ xs) x e = by_test (p y) refl (find_passes p xs x) e
  where
    by_test : (b : Bool) → p y ≡ b → (find p xs ≡ Some x → p x ≡ true) → cond b (Some y) (find p xs) ≡ Some x → p x ≡ true
    by_test true passes rest e = let same : y ≡ x = cc in ap p (sym same) ∙ passes
    by_test false fails rest e = rest e
