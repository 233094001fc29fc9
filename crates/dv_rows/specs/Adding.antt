-- A keyword that is given to rows in their places.
use Rattle.std.specs.Prelude.{◌≡◌, ◌≢◌, ◌⊎◌, ℕ, ◌<◌, ◌≤◌, List, ◌∷◌, ◌++◌, All, drop, get_or, length, take, Option, Some, None}
use Rattle.std.specs.List.{Any}
use Rattle.std.specs.List.Sorted.{IsStrictlyIncreasing}
use Rattle.dv_model.specs.declared.types.Row.{Row}
use Rattle.dv_model.specs.Effects.{with_place}
use Rattle.dv_rows.specs.declared.adding.Given.{Given}
use Rattle.dv_validity.specs.Laws.{restamped}

-- the keywords of each row are places that rise
abbrev pub AreInOrder : List Row → Type 0
AreInOrder rows = All (λ row. IsStrictlyIncreasing row.keywords) rows

-- none of them is this place
abbrev pub Lacks : ℕ → List ℕ → Type 0
Lacks place places = All (λ p. p ≢ place) places

-- where the place goes, or it is there
abbrev pub IsGap : ℕ → List ℕ → Option ℕ → Type 0
IsGap place places None = with_place place places ≡ places
IsGap place places (Some at) = (at ≤ length places) × (with_place place places ≡ take at places ++ place ∷ drop at places) × Lacks place places

-- the row with the keyword, and with this modification sequence unless it had it
abbrev pub added : ℕ → ℕ → Row → Row
added n place row = restamped n row (record row { keywords = with_place place row.keywords })

-- what the row was that now has the keyword
pub record IsBefore (place : ℕ) (before : List Row) (g : Given) : Type 0 where
  pub inside : g.at < length before
  pub lacks : (d : Row) → Lacks place (get_or before g.at d).keywords
  pub modseq : (d : Row) → g.modseq ≡ (get_or before g.at d).modseq

-- each row is as before, or it is among those that were given the keyword
pub record AreGiven (place n : ℕ) (before rows : List Row) (given : List Given) : Type 0 where
  pub same : length rows ≡ length before
  pub right : All (IsBefore place before) given
  pub each : (k : ℕ) (d : Row) → k < length before →
      (get_or rows k d ≡ get_or before k d)
      ⊎ (Any (λ g. g.at ≡ k) given × (get_or rows k d ≡ record (get_or before k d) { keywords = with_place place (get_or before k d).keywords; modseq = n }))
