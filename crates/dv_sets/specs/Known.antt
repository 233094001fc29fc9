-- The keywords of a list so far, as a set.
use Rattle.std.specs.Prelude.{◌≡◌, ℕ, List}
use Rattle.std.specs.BTreeSet.{BTreeSet, contains}
use Rattle.std.specs.Borrow.{Bor}
use Rattle.std.specs.Cmp.Lexicographic.{slice_cmp}
use Rattle.std.specs.List.{list_any}
use Rattle.std.specs.Ordering.{nat_cmp}
use Rattle.std.specs.Str.{bytes_eq}

-- the set has these names and no others
abbrev pub KnowsAll : BTreeSet (Bor (List ℕ)) → List (List ℕ) → Type 0
KnowsAll known names = (name : Bor (List ℕ)) → contains (λ x y. slice_cmp nat_cmp x.now y.now) known name ≡ list_any (bytes_eq name.now) names
