-- Places of rows by intervals.
use Rattle.std.specs.Prelude.{ℕ, ◌+◌, ◌≤◌, Bool, ◌&&◌, List, All, filter, map, nat_le, nat_lt}
use Rattle.std.specs.List.{list_any, range_with_len}
use Rattle.dv_sets.specs.declared.intervals.Interval.{Interval}

-- the interval has the place
abbrev pub is_within : ℕ → Interval → Bool
is_within k interval = nat_le interval.from k && nat_lt k interval.to

-- one of the intervals has the place
abbrev pub is_covered : List Interval → ℕ → Bool
is_covered intervals k = list_any (is_within k) intervals

-- the message numbers of the places, among so many, that pass
abbrev pub numbers_where : (ℕ → Bool) → ℕ → List ℕ
numbers_where test count = map (λ k. k + 1) (filter test (range_with_len 0 count))

-- no interval ends behind so many places
abbrev pub AreInside : ℕ → List Interval → Type 0
AreInside count intervals = All (λ interval. interval.to ≤ count) intervals
