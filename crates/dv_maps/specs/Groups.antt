-- What each call writes into the log of a storage's map.
use Rattle.std.specs.Prelude.{ℕ, List, [], ◌∷◌, ◌++◌, codes, flat_map, map}
use Rattle.std.specs.Int.{w16, w32, to_le_bytes}
use Rattle.dv_model.specs.declared.types.Body.TheVariants as body
use Rattle.dv_model.specs.declared.types.Intro.{Intro}
use Rattle.dv_model.specs.declared.types.Record.{Record}
use Rattle.dv_model.specs.Effects.{no_id}
use Rattle.dv_model.specs.Sessions.{external_record, internal_record, pieces, ranges_of}
use Rattle.dv_maps.specs.declared.mapped.Placed.{Placed}
use Rattle.dv_maps.specs.declared.place.Place.{Place}

-- an extension of so many bytes for each row is introduced by its name
abbrev pub intro_of : List ℕ → ℕ → ℕ → Intro
intro_of name size align = record {
  ext_id = no_id;
  reset_id = 0;
  hdr_size = 0;
  record_size = size;
  record_align = align;
  flags = 0;
  name = name;
}

-- the record that does so
abbrev pub intro_record : List ℕ → ℕ → ℕ → Record
intro_record name size align = internal_record (body.ExtIntro (intro_of name size align ∷ []))

-- `map` has a place, `ref` a count
abbrev pub map_intro : Record
map_intro = intro_record (codes "map") 12 4

abbrev pub ref_intro : Record
ref_intro = intro_record (codes "ref") 2 2

-- its row of an update of `map`
abbrev pub place_row : Placed → List ℕ
place_row row =
    to_le_bytes w32 row.id ++ to_le_bytes w32 row.place.file ++ to_le_bytes w32 row.place.offset
    ++ to_le_bytes w32 row.place.size

-- a row of an update of `ref`, filled up to eight bytes
abbrev pub count_row : ℕ → ℕ → List ℕ
count_row id count = to_le_bytes w32 id ++ to_le_bytes w16 count ++ 0 ∷ 0 ∷ []

-- an update of rows
abbrev pub update_of : List ℕ → Record
update_of bytes = internal_record (body.ExtRecordUpdate bytes)

-- a copy and a drop say the new count
abbrev pub count_records : ℕ → ℕ → List Record
count_records id count = ref_intro ∷ update_of (count_row id count) ∷ []

-- a save appends the id, says its place and then its one reference
abbrev pub save_records : ℕ → Place → List Record
save_records id place =
    external_record (body.Append (record { uid = id; flags = 0 } ∷ []))
    ∷ map_intro
    ∷ update_of (place_row (record { id = id; place = place }))
    ∷ count_records id 1

-- the new places of the rows that a file keeps
abbrev pub move_records : List Placed → List Record
move_records [] = []
move_records (row ∷ rows) =
    map_intro ∷ map (λ piece. update_of (flat_map place_row piece)) (pieces (row ∷ rows))

-- for one file a purge says the new places of the rows that it keeps, and removes the others
abbrev pub purge_records : List Placed → List ℕ → List Record
purge_records kept gone =
    move_records kept
    ++ map (λ piece. external_record (body.Expunge piece)) (pieces (ranges_of gone))
