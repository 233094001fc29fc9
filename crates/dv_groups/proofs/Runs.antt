-- Ranges of UIDs, from left to right.
use Rattle.std.proofs.Common.{◌+◌, cond, List, [], ◌∷◌, nat_eq}
use Rattle.dv_model.specs.declared.types.Pair.{Pair}

-- a range in front of ranges that follow it
abbrev pub joined : Pair → List Pair → List Pair
joined range [] = range ∷ []
joined range (pair ∷ pairs) = cond (nat_eq (range.last + 1) pair.first) (record { first = range.first; last = pair.last } ∷ pairs) (range ∷ pair ∷ pairs)
