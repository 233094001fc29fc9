-- The records of the purge of a file.
use Rattle.std.proofs.Common.{◌≡◌, ℕ, ◌+◌, ◌^◌, ◌<◌, ◌≤◌, List, [], ◌∷◌, ◌++◌, length, map, take, drop, get_or, refl, sym, ◌∙◌, ap, arith, append_assoc}
use Rattle.std.specs.Prelude.{flat_map}
use Rattle.std.proofs.lemmas.List.{append-nil, at_drop_more, take_all, take_more}
use Rattle.std.proofs.lemmas.List.Sums.{sum_by-cons}
use Rattle.std.proofs.Math.ListN.{drop_of_length-le}
use Rattle.dv_model.specs.declared.types.Record.{Record}
use Rattle.dv_model.specs.Sessions.{pieces}
use Rattle.dv_maps.specs.declared.mapped.Mapped.{Mapped}
use Rattle.dv_maps.specs.declared.mapped.Placed.{Placed}
use Rattle.dv_maps.specs.Groups.{map_intro, move_records, place_row}
use Rattle.dv_maps.specs.Purges.{moved}
use Rattle.dv_maps.proofs.Moving.{place_update}
use Rattle.dv_maps.specs.Purges.{size_of}

-- ---- new places

module _ (new : ℕ) (rows : List Mapped) (i : ℕ) (d : Mapped) (less : i < length rows) where
  pub moved_more : (placed : List Placed) (at : ℕ) → placed ++ moved new at (drop i rows) ≡ moved new 0 rows
      → (placed ++ record { id = (get_or rows i d).id; place = record { file = new; offset = at; size = (get_or rows i d).place.size } } ∷ []) ++ moved new (at + (get_or rows i d).place.size) (drop (i + 1) rows) ≡ moved new 0 rows
  moved_more placed at was =
      append_assoc placed (record { id = (get_or rows i d).id; place = record { file = new; offset = at; size = (get_or rows i d).place.size } } ∷ []) (moved new (at + (get_or rows i d).place.size) (drop (i + 1) rows))
      ∙ sym (at_drop_more (λ (l : List Mapped). placed ++ moved new at l) rows i d less) ∙ was

  pub room_more : (at : ℕ) → at + size_of (drop i rows) ≡ size_of rows → (at + (get_or rows i d).place.size) + size_of (drop (i + 1) rows) ≡ size_of rows
  room_more at was =
      let here : size_of (drop i rows) ≡ size_of (get_or rows i d ∷ drop (i + 1) rows) = at_drop_more size_of rows i d less in
      let sum = sum_by-cons (λ (r : Mapped). r.place.size) (get_or rows i d) (drop (i + 1) rows) in
      omega (arith, was, here, sum)

-- what is written so far has room
pub room_fits : (new : ℕ) (rows : List Mapped) (i : ℕ) (d : Mapped) → i < length rows → (at : ℕ) → at + size_of (drop i rows) ≡ size_of rows → size_of rows < 2 ^ 32 → at + (get_or rows i d).place.size < 2 ^ 32
room_fits new rows i d less at was short = let more = room_more new rows i d less at was in omega (arith, more, short)

pub moved_all : (new : ℕ) (rows : List Mapped) (i : ℕ) (placed : List Placed) (at : ℕ) → length rows ≤ i → placed ++ moved new at (drop i rows) ≡ moved new 0 rows → placed ≡ moved new 0 rows
moved_all new rows i placed at through was =
    let none : drop i rows ≡ [] = drop_of_length-le rows through in
    sym (append-nil placed) ∙ sym (ap (λ (l : List Mapped). placed ++ moved new at l) none) ∙ was

-- ---- rows of an update

places_push : (rows : List Placed) (row : Placed) → flat_map place_row (rows ++ row ∷ []) ≡ flat_map place_row rows ++ place_row row
places_push [] row = append-nil (place_row row)
places_push (r ∷ rows) row = ap (λ (l : List ℕ). place_row r ++ l) (places_push rows row) ∙ sym (append_assoc (place_row r) (flat_map place_row rows) (place_row row))

pub places_more : (rows : List Placed) (i : ℕ) (d : Placed) (bytes : List ℕ) → i < length rows → bytes ≡ flat_map place_row (take i rows) → bytes ++ place_row (get_or rows i d) ≡ flat_map place_row (take (i + 1) rows)
places_more rows i d bytes less was =
    ap (λ (l : List ℕ). l ++ place_row (get_or rows i d)) was ∙ sym (places_push (take i rows) (get_or rows i d)) ∙ ap (flat_map place_row) (sym (take_more rows i d less))

pub places_all : (rows : List Placed) (i : ℕ) (bytes : List ℕ) → length rows ≤ i → bytes ≡ flat_map place_row (take i rows) → bytes ≡ flat_map place_row rows
places_all rows i bytes through was = was ∙ ap (flat_map place_row) (take_all i rows through)

-- ---- records in pieces

pub move_some : (rows : List Placed) → 1 ≤ length rows → move_records rows ≡ map_intro ∷ map place_update (pieces rows)
move_some [] some = absurd (omega (arith, some))
move_some (row ∷ rows) some = refl

pub move_none : (rows : List Placed) (records : List Record) → length rows ≡ 0 → records ≡ records ++ move_records rows
move_none [] records none = sym (append-nil records)
move_none (row ∷ rows) records none = absurd (omega (arith, none))

-- ---- both

pub both_records : (records moves all : List Record) (more : List Record) → moves ≡ [] ++ records → all ≡ moves ++ more → all ≡ records ++ more
both_records records moves all more one two = two ∙ ap (λ (l : List Record). l ++ more) one
