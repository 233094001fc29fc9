-- The rows of a storage's map (Dovecot's mdbox-map.c; the layout is this project's own).
use Rattle.std.specs.Prelude.{ℕ, List, [], codes, map, unwrap_or}
use Rattle.dv_model.specs.declared.types.Extension.{Extension}
use Rattle.dv_model.specs.declared.types.Mailbox.{Mailbox}
use Rattle.dv_model.specs.declared.types.Row.{Row}
use Rattle.dv_maps.specs.declared.place.Place.{Place}
use Rattle.dv_maps.specs.Parts.{half_at, part_of, word_at}

-- a file, an offset and a size, of four bytes each
abbrev pub place_from : List ℕ → Place
place_from part = record { file = word_at part 0; offset = word_at part 4; size = word_at part 8 }

-- where the text of a row's message stands: its part `map`
abbrev pub place_of : List Extension → List (List ℕ) → Place
place_of es parts = place_from (unwrap_or (part_of (codes "map") es parts) [])

-- how many references it has: its part `ref`
abbrev pub count_of : List Extension → List (List ℕ) → ℕ
count_of es parts = half_at (unwrap_or (part_of (codes "ref") es parts) []) 0

-- the same of a mailbox's row
abbrev pub row_place : Mailbox → Row → Place
row_place m row = place_of m.extensions row.parts

abbrev pub row_count : Mailbox → Row → ℕ
row_count m row = count_of m.extensions row.parts

-- where the texts of all rows stand
abbrev pub places_of : Mailbox → List Place
places_of m = map (row_place m) m.rows
