-- Keywords and parts that take the place of others.
use Rattle.std.specs.Prelude.{◌≡◌, ◌≢◌, ℕ, List, ◌++◌, drop, length, Option, Some, None, if◌then◌else◌}
use Rattle.dv_model.specs.declared.types.How.{How}
use Rattle.dv_model.specs.declared.types.Pair.{Pair}
use Rattle.dv_model.specs.declared.types.Row.{Row}
use Rattle.dv_model.specs.Effects.{is_in_pairs, keywords_after}

-- the keywords of a row in the ranges change
abbrev pub changed_keywords : List Pair → (List ℕ → List ℕ) → Row → Row
changed_keywords pairs change row = if is_in_pairs pairs row.uid then record row { keywords = change row.keywords } else row

-- a row's keywords behind a change of one of them, where they are others then
abbrev pub IsOther : How → ℕ → Row → Option (List ℕ) → Type 0
IsOther how place row None = keywords_after how place row.keywords ≡ row.keywords
IsOther how place row (Some keywords) = (keywords ≡ keywords_after how place row.keywords) × (keywords ≢ row.keywords)

-- the first bytes are these, and those behind them stay
abbrev pub written_at_front : List ℕ → List ℕ → List ℕ
written_at_front bytes part = bytes ++ drop (length bytes) part
