-- Disjoint ranges of UIDs in rising order, and what changes of flags do by their ranges.
use Rattle.std.specs.Prelude.{ℕ, ◌+◌, ◌≤◌, ◌&&◌, ⊤, List, [], ◌∷◌, fold, nat_le, if◌then◌else◌}
use Rattle.dv_model.specs.declared.types.Change.{Change}
use Rattle.dv_model.specs.declared.types.Pair.{Pair}
use Rattle.dv_model.specs.Effects.{with_bits}

-- each range has a UID, and begins behind the end of the one before it; the first begins at the bound or behind it
abbrev pub AreFrom : {X : Type 0} → (X → ℕ) → (X → ℕ) → ℕ → List X → Type 0
AreFrom first last low [] = ⊤
AreFrom first last low (x ∷ xs) = (low ≤ first x) × (first x ≤ last x) × AreFrom first last (last x + 1) xs

abbrev pub ArePairsApart : List Pair → Type 0
ArePairsApart pairs = AreFrom (λ pair. pair.first) (λ pair. pair.last) 0 pairs

abbrev pub AreChangesApart : List Change → Type 0
AreChangesApart changes = AreFrom (λ change. change.first) (λ change. change.last) 0 changes

-- the range of a change
abbrev pub pair_of : Change → Pair
pair_of change = record { first = change.first; last = change.last }

-- a row's flags behind a change, by the row's UID
abbrev pub flags_behind : ℕ → ℕ → Change → ℕ
flags_behind uid flags change = if nat_le change.first uid && nat_le uid change.last then with_bits change.add change.remove flags else flags

-- behind changes in turn
abbrev pub flags_after : ℕ → ℕ → List Change → ℕ
flags_after uid flags changes = fold (flags_behind uid) flags changes
