-- The other keywords of some rows, before they are put into the rows.
use Rattle.std.specs.Prelude.{◌≡◌, ◌≢◌, ◌⊎◌, ℕ, ◌<◌, true, List, length, get_or, All}
use Rattle.std.specs.List.{Any}
use Rattle.dv_model.specs.declared.types.How.{How}
use Rattle.dv_model.specs.declared.types.Pair.{Pair}
use Rattle.dv_model.specs.declared.types.Row.{Row}
use Rattle.dv_model.specs.Effects.{is_in_pairs, keywords_after}
use Rattle.dv_rows.specs.declared.keywords.Other.{Other}

-- these are the keywords of a row in the ranges behind the change, and others than it has
pub record IsRight (pairs : List Pair) (how : How) (place : ℕ) (rows : List Row) (other : Other) : Type 0 where
  pub inside : other.at < length rows
  pub named : (d : Row) → is_in_pairs pairs (get_or rows other.at d).uid ≡ true
  pub keywords : (d : Row) → other.keywords ≡ keywords_after how place (get_or rows other.at d).keywords
  pub differ : (d : Row) → other.keywords ≢ (get_or rows other.at d).keywords

-- the row at a place keeps its keywords, or its other ones are at hand
abbrev pub IsPlanned : How → ℕ → List Row → List Other → ℕ → Type 0
IsPlanned how place rows others k =
    ((d : Row) → keywords_after how place (get_or rows k d).keywords ≡ (get_or rows k d).keywords) ⊎ Any (λ other. other.at ≡ k) others

-- each row in the ranges is planned
abbrev pub ArePlanned : List Pair → How → ℕ → List Row → List Other → Type 0
ArePlanned pairs how place rows others = (k : ℕ) (d : Row) → k < length rows → is_in_pairs pairs (get_or rows k d).uid ≡ true → IsPlanned how place rows others k

-- the other keywords of the rows in the ranges
pub record IsPlan (pairs : List Pair) (how : How) (place : ℕ) (rows : List Row) (others : List Other) : Type 0 where
  pub right : All (IsRight pairs how place rows) others
  pub all : ArePlanned pairs how place rows others
