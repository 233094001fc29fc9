-- Sets by ranges that rise and are apart.
use Rattle.std.specs.Prelude.{◌≡◌, ℕ, ◌≤◌, Bool, ◌&&◌, List, [], ◌∷◌, All, max, nat_le, if◌then◌else◌}
use Rattle.std.specs.List.{list_any}
use Rattle.std.specs.List.Sorted.{IsNonDecreasingBy}
use Rattle.dv_model.specs.declared.types.End.TheVariants.{Number}
use Rattle.dv_model.specs.declared.types.Span.{Span}
use Rattle.dv_model.specs.Sets.{end_value}
use Rattle.dv_sets.specs.declared.joining.Range.{Range}

-- the ends of a range of numbers
abbrev pub low_of : Span → ℕ
low_of span = end_value 0 span.from

abbrev pub high_of : Span → ℕ
high_of span = end_value 0 span.to

-- a range of numbers, the lower end first
pub record IsPlain (span : Span) : Type 0 where
  pub from : (star : ℕ) → end_value star span.from ≡ low_of span
  pub to : (star : ℕ) → end_value star span.to ≡ high_of span
  pub ordered : low_of span ≤ high_of span

-- ranges of numbers, each behind the one before
pub record AreApart (set : List Span) : Type 0 where
  pub plain : All IsPlain set
  pub lows : IsNonDecreasingBy low_of set
  pub highs : IsNonDecreasingBy high_of set

-- a range has the number
abbrev pub is_in_range : ℕ → Range → Bool
is_in_range n range = nat_le range.low n && nat_le n range.high

abbrev pub is_in_ranges : List Range → ℕ → Bool
is_in_ranges ranges n = list_any (is_in_range n) ranges

-- what a range has from a number on, where it has any such
abbrev pub piece : ℕ → Range → List Span
piece next range =
    if nat_le (max range.low next) range.high then record { from = Number (max range.low next); to = Number range.high } ∷ []
    else []
