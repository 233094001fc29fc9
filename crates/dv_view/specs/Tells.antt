-- What is told of one row, with names from a table.
use Rattle.std.specs.Prelude.{ℕ, Bool, List, [], ◌∷◌, ◌++◌, length, map, nat_eq, not, reverse, slice_get, unwrap_or, if◌then◌else◌}
use Rattle.std.specs.List.{list_any, list_all}
use Rattle.dv_model.specs.declared.types.Reply.{Reply}
use Rattle.dv_model.specs.declared.types.Reply.TheVariants as reply
use Rattle.dv_model.specs.declared.types.Shown.{Shown}
use Rattle.dv_model.specs.declared.types.Value.TheVariants as value
use Rattle.dv_model.specs.Views.{numbers, same_row}

-- the names at these places of a table
abbrev pub names_at : List (List ℕ) → List ℕ → List (List ℕ)
names_at names places = map (λ k. unwrap_or (slice_get names k) []) places

-- the FETCH of a row with this message number (RFC 3501, section 7.4.2)
abbrev pub fetch_of : List (List ℕ) → ℕ × Shown → Reply
fetch_of names row = reply.Fetch row.0 row.1.uid (value.Flags row.1.flags (names_at names row.1.keywords) ∷ [])

-- one EXPUNGE for each of these rows that isn't among the new ones, from the last one on
abbrev pub removals_of : List Shown → List Shown → List Reply
removals_of new old = map (λ row. reply.Expunge row.0) (reverse (numbers (λ s. not (list_any (λ t. nat_eq t.uid s.uid) new)) 1 old))

-- each of these rows was there before
abbrev pub shows_all : List Shown → List Shown → Bool
shows_all old new = list_all (λ s. list_any (λ t. nat_eq t.uid s.uid) old) new

-- each of these rows, numbered from k, that isn't as one of the old ones
abbrev pub told_rows : List Shown → ℕ → List Shown → List (ℕ × Shown)
told_rows old k new = numbers (λ s. not (list_any (same_row s) old)) k new

-- one FETCH for each of them
abbrev pub changes_of : List (List ℕ) → List Shown → ℕ → List Shown → List Reply
changes_of names old k new = map (fetch_of names) (told_rows old k new)

-- what is said of a move, by the rows before and behind it and a table of names
abbrev pub said_of : List (List ℕ) → List Shown → List Shown → List Reply
said_of names old new =
    removals_of new old ++ (if shows_all old new then [] else reply.Exists (length new) ∷ []) ++ changes_of names old 1 new
