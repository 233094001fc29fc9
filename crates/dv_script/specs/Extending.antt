-- A text that was added to.
use Rattle.std.specs.Prelude.{◌≡◌, ◌++◌, ℕ, List}

-- the new text is the old one with some bytes behind it, or with none
pub record Extends (old new : List ℕ) : Type 0 where
  pub more : List ℕ
  pub is : new ≡ old ++ more
