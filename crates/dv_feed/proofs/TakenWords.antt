-- Words are taken one after another.
use Rattle.std.proofs.Common.{◌≡◌, ℕ, zero, suc, ◌+◌, List, [], ◌∷◌, ◌++◌, drop, Some, sym, ap, ◌∙◌, append_assoc, add-one}
use Rattle.std.specs.Prelude.{slice_get}

next_word : (xs : List ℕ) (k w : ℕ) → slice_get xs k ≡ Some w → drop k xs ≡ w ∷ drop (suc k) xs
next_word [] k w e = absurd cc
next_word (x ∷ xs) zero w e = cc e
next_word (x ∷ xs) (suc k) w e = next_word xs k w e

-- a word more was taken
pub took : (all out known : List ℕ) (k w : ℕ) → slice_get known k ≡ Some w → out ++ drop k known ≡ all → (out ++ w ∷ []) ++ drop (k + 1) known ≡ all
took all out known k w e is =
    append_assoc out (w ∷ []) (drop (k + 1) known) ∙ ap (λ (n : ℕ). out ++ w ∷ drop n known) (add-one k) ∙ ap (λ t. out ++ t) (sym (next_word known k w e)) ∙ is
