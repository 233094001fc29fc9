-- Search keys in which `*` stands, and rows as the other keys see them.
use Rattle.std.specs.Prelude.{◌≡◌, ℕ, Bool, true, false, ◌||◌, List, []}
use Rattle.std.specs.List.{list_any}
use Rattle.dv_model.specs.declared.types.End.{End}
use Rattle.dv_model.specs.declared.types.End.TheVariants.{Number, Star}
use Rattle.dv_model.specs.declared.types.Key.{Key}
use Rattle.dv_model.specs.declared.types.Key.TheOpen.{Key-F}
use Rattle.dv_model.specs.declared.types.Key.TheFolds.{fold-Key}
use Rattle.dv_model.specs.declared.types.Shown.{Shown}
use Rattle.dv_model.specs.declared.types.Span.{Span}
use Rattle.dv_model.specs.Searches.{Candidate, meets}
use Rattle.dv_view.specs.Tells.{names_at}
use Rattle.dv_search.specs.Prepared.{with_largest}

-- the end is `*`, the largest number in use (RFC 3501, section 9, seq-number)
abbrev pub is_star : End → Bool
is_star Star = true
is_star (Number n) = false

-- one of the ranges ends in `*`
abbrev pub has_star : List Span → Bool
has_star set = list_any (λ span. is_star span.from || is_star span.to) set

-- one key, with whether `*` stands in the keys inside it
abbrev pub star_step : Key-F Bool → Bool
star_step (Key-F.Uid set) = has_star set
star_step (Key-F.Not key) = key
star_step (Key-F.Or one other) = one || other
star_step (Key-F.And keys) = list_any (λ key. key) keys
star_step key = false

-- `*` stands in the key
abbrev pub names_star : Key → Bool
names_star = fold-Key Bool star_step

-- a key in which no `*` stands is met by the same messages whatever the largest UID is
abbrev pub LargestIsForStars : Type 0
LargestIsForStars = (key : Key) (c : Candidate) (n : ℕ) → names_star key ≡ false
    → meets key (with_largest n c) ≡ meets key c

-- a row as a key that reads no messages is tried on it: the places of its keywords are read in this table
abbrev pub row_in : List (List ℕ) → ℕ → Shown → Candidate
row_in names largest s = record {
  uid = s.uid;
  flags = s.flags;
  keywords = names_at names s.keywords;
  largest_uid = largest;
  message = [];
}
