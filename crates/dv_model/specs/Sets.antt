-- Which messages a sequence set names (RFC 3501, section 9, sequence-set).
use Rattle.std.specs.Prelude.{ℕ, min, max, Bool, true, false, ◌&&◌, ◌||◌, List, [], ◌∷◌, length, filter, flat_map, find, fold, Option, nat_eq, nat_lt, nat_le}
use Rattle.std.specs.List.{list_any, enumerate_from}
use Rattle.dv_model.specs.declared.types.End.{End}
use Rattle.dv_model.specs.declared.types.End.TheVariants.{Number, Star}
use Rattle.dv_model.specs.declared.types.Shown.{Shown}
use Rattle.dv_model.specs.declared.types.Span.{Span}
use Rattle.dv_model.specs.Views.{View}

-- `*` is the largest number in use
abbrev pub end_value : ℕ → End → ℕ
end_value star (Number n) = n
end_value star Star = star

-- both ends count, in either order: 2:4 and 4:2 are the same
abbrev pub is_in_span : ℕ → Span → ℕ → Bool
is_in_span star span n =
    nat_le (min (end_value star span.from) (end_value star span.to)) n && nat_le n (max (end_value star span.from) (end_value star span.to))

-- one of the ranges has the number
abbrev pub is_in_set : ℕ → List Span → ℕ → Bool
is_in_set star set n = list_any (λ span. is_in_span star span n) set

-- of message numbers `*` is the number of rows, of UIDs the largest UID
abbrev pub largest_uid : View → ℕ
largest_uid view = fold (λ n s. max n s.uid) 0 view.rows

-- each row with its message number, from 1 (RFC 3501, section 2.3.1.2)
abbrev pub numbered : View → List (ℕ × Shown)
numbered view = enumerate_from 1 view.rows

-- the rows that a set names by message numbers
abbrev pub named_by_number : List Span → View → List (ℕ × Shown)
named_by_number set view = filter (λ row. is_in_set (length view.rows) set row.0) (numbered view)

-- the rows that a set names by UIDs; a UID that the view lacks is passed over (RFC 3501, section 6.4.8)
abbrev pub named_by_uid : List Span → View → List (ℕ × Shown)
named_by_uid set view = filter (λ row. is_in_set (largest_uid view) set row.1.uid) (numbered view)

-- by UIDs or by message numbers
abbrev pub named : Bool → List Span → View → List (ℕ × Shown)
named true set view = named_by_uid set view
named false set view = named_by_number set view

-- the ends of the spans in the order in which they stand
abbrev pub ends : ℕ → List Span → List ℕ
ends star set = flat_map (λ span. end_value star span.from ∷ end_value star span.to ∷ []) set

-- the first end that is no message number of the view: 0, or above the number of rows
abbrev pub missing_end : List Span → View → Option ℕ
missing_end set view = find (λ n. nat_eq n 0 || nat_lt (length view.rows) n) (ends (length view.rows) set)
