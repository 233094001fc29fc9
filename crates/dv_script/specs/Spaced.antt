-- Words, one behind another.
use Rattle.std.specs.Prelude.{◌≡◌, ℕ, Bool, false, List, [], ◌∷◌, ◌++◌, if◌then◌else◌}

-- the words with a space before each, but for the very first
unfoldable pub spaced_from : Bool → List (List ℕ) → List ℕ
spaced_from first [] = []
spaced_from first (w ∷ ws) = (if first then w else 32 ∷ w) ++ spaced_from false ws

-- whether a word behind these is the first
unfoldable pub none_of : Bool → List (List ℕ) → Bool
none_of first [] = first
none_of first (w ∷ ws) = false

-- these words were added, and the next one is then the first or not
pub record AddsWords (first : Bool) (words : List (List ℕ)) (old new : List ℕ) (next : Bool) : Type 0 where
  pub written : new ≡ old ++ spaced_from first words
  pub still : next ≡ none_of first words
