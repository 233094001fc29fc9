-- What is held of messages is written as what is known of them.
use Rattle.std.proofs.Common.{◌≡◌, ◌<◌, ◌≤◌, ◌^◌, ℕ, ◌+◌, ◌*◌, Bool, true, false, ◌&&◌, cond, List, [], ◌∷◌, ◌++◌, length, get_or, map, take, Option, Some, None, refl, sym, ◌∙◌, ap}
use Rattle.std.specs.Prelude.{nat_le, slice_get, sum_by}
use Rattle.std.proofs.lemmas.List.{length-map, map-append, take_more}
use Rattle.std.proofs.lemmas.List.Elements.{All-contains_itself}
use Rattle.std.proofs.lemmas.Option.{get_or_from_slice_get}
use Rattle.dv_model.specs.declared.types.Mailbox.{Mailbox}
use Rattle.dv_model.specs.declared.types.Row.{Row}
use Rattle.dv_model.specs.Journals.{Mail, Held, Damaged}
use Rattle.dv_model.specs.Mailboxes.{IsValid}
use Rattle.dv_validity.proofs.Agreeing.{map_same}
use Rattle.dv_shelf.specs.Folders.{Folder}
use Rattle.dv_cache.specs.declared.row.CacheRow.{CacheRow}
use Rattle.dv_cache.specs.declared.row.Known.{Known}
use Rattle.dv_cache.specs.Caches.{cache_text, entries_from, field_size, fields_text, first_place, fits, header_text, kept, known_text, place_behind, row_entry, texts_from}
use Rattle.dv_cached.proofs.Checks.{cached_writable}
use Rattle.dv_files.specs.Reading.{mail_at}
use Rattle.dv_openings.specs.TrueCaches.{cached_rows, known_in, known_of}
use Rattle.dv_lookups.specs.Founds.{AreMessages}
use Rattle.dv_lookups.specs.Checks.{IsCacheText, has_sizes, held_of, held_row, held_rows}

-- sizes that aren't kept don't fit
fits_not : (at : ℕ) (known : Known) → has_sizes known ≡ false → fits at known ≡ false
fits_not at known large =
    ap (λ (b : Bool). b && nat_le (sum_by field_size known.fields) 65536 && nat_le (at + length (fields_text known.fields)) 1073741824) large

-- at each place the same is kept
kept_same : (at : ℕ) (mail : Mail) → kept at (held_of mail) ≡ kept at (known_of mail)
kept_same at Damaged = refl
kept_same at (Held message) = by_test (has_sizes (known_in message)) refl
  where
    by_test : (b : Bool) → has_sizes (known_in message) ≡ b → kept at (cond (has_sizes (known_in message)) (Some (known_in message)) None) ≡ cond (fits at (known_in message)) (Some (known_in message)) None
    by_test true has = ap (λ (b : Bool). kept at (cond b (Some (known_in message)) None)) has
    by_test false large =
        ap (λ (b : Bool). kept at (cond b (Some (known_in message)) None)) large
        ∙ sym (ap (λ (b : Bool). cond b (Some (known_in message)) None) (fits_not at (known_in message) large))

module _ (mail : ℕ → Mail) where
  -- the rows of all that is known
  abbrev plain_rows : List Row → List CacheRow
  plain_rows rows = map (λ row. record { uid = row.uid; known = known_of (mail row.uid) }) rows

  -- the place behind a row's fields
  abbrev next : ℕ → Row → ℕ
  next at row = at + length (known_text (kept at (known_of (mail row.uid))))

  next_same : (at : ℕ) (row : Row) → at + length (known_text (kept at (held_of (mail row.uid)))) ≡ next at row
  next_same at row = ap (λ (k : Option Known). at + length (known_text k)) (kept_same at (mail row.uid))

  places_same : (at : ℕ) (rows : List Row) → place_behind at (held_rows mail rows) ≡ place_behind at (plain_rows rows)
  places_same at [] = refl
  places_same at (row ∷ rows) = ap (λ (k : ℕ). place_behind k (held_rows mail rows)) (next_same at row) ∙ places_same (next at row) rows

  entries_same : (at : ℕ) (rows : List Row) → entries_from at (held_rows mail rows) ≡ entries_from at (plain_rows rows)
  entries_same at [] = refl
  entries_same at (row ∷ rows) =
      ap (λ (k : Option Known). row_entry at row.uid k ++ entries_from (at + length (known_text k)) (held_rows mail rows)) (kept_same at (mail row.uid))
      ∙ ap (λ (text : List ℕ). row_entry at row.uid (kept at (known_of (mail row.uid))) ++ text) (entries_same (next at row) rows)

  texts_same : (at : ℕ) (rows : List Row) → texts_from at (held_rows mail rows) ≡ texts_from at (plain_rows rows)
  texts_same at [] = refl
  texts_same at (row ∷ rows) =
      ap (λ (k : Option Known). known_text k ++ texts_from (at + length (known_text k)) (held_rows mail rows)) (kept_same at (mail row.uid))
      ∙ ap (λ (text : List ℕ). known_text (kept at (known_of (mail row.uid))) ++ text) (texts_same (next at row) rows)

  -- so under any number they are written as the rows of the messages
  pub text_same : (indexid seq : ℕ) (m : Mailbox) → cache_text indexid seq (held_rows mail m.rows) ≡ cache_text indexid seq (cached_rows mail m)
  text_same indexid seq m =
      let held = held_rows mail m.rows in
      let rows = plain_rows m.rows in
      let count : length held ≡ length rows = length-map m.rows (λ (row : Row). held_row mail row.uid) ∙ sym (length-map m.rows (λ (row : Row). record { uid = row.uid; known = known_of (mail row.uid) })) in
      ap (λ (n : ℕ). header_text indexid seq n (place_behind (32 + 16 * n) held) ++ entries_from (32 + 16 * n) held ++ texts_from (32 + 16 * n) held) count
      ∙ ap (λ (place : ℕ). header_text indexid seq (length rows) place ++ entries_from (first_place rows) held ++ texts_from (first_place rows) held) (places_same (first_place rows) m.rows)
      ∙ ap (λ (text : List ℕ). header_text indexid seq (length rows) (place_behind (first_place rows) rows) ++ text ++ texts_from (first_place rows) held) (entries_same (first_place rows) m.rows)
      ∙ ap (λ (text : List ℕ). header_text indexid seq (length rows) (place_behind (first_place rows) rows) ++ entries_from (first_place rows) rows ++ text) (texts_same (first_place rows) m.rows)

-- one row more is held
pub rows_more : (mail : ℕ → Mail) (rows : List Row) (k : ℕ) (row : Row) → k < length rows → slice_get rows k ≡ Some row
    → held_rows mail (take k rows) ++ held_row mail row.uid ∷ [] ≡ held_rows mail (take (k + 1) rows)
rows_more mail rows k row less is =
    let made : Row → CacheRow = λ r. held_row mail r.uid in
    sym (ap (map made) (take_more rows k row less)
    ∙ map-append made (take k rows) (get_or rows k row ∷ [])
    ∙ ap (λ (r : Row). map made (take k rows) ++ made r ∷ []) (get_or_from_slice_get rows k row row is))

-- the rows of messages that are the mailbox's rows'
module _ (folder : Folder) (m : Mailbox) (mail : ℕ → Mail) (same : AreMessages folder m mail) where
  rows_same : cached_rows (mail_at folder) m ≡ cached_rows mail m
  rows_same =
      let row_of : (ℕ → Mail) → Row → CacheRow = λ mails row. record { uid = row.uid; known = known_of (mails row.uid) } in
      map_same (row_of (mail_at folder)) (row_of mail) m.rows (λ i d less.
      let row = get_or m.rows i d in
      ap (λ (o : Mail). record { uid = row.uid; known = known_of o }) (same row (All-contains_itself m.rows i d less)))

  -- so the text of what is held is the cache file of the mailbox's messages
  pub is_text : (indexid seq : ℕ) (text : List ℕ) → indexid < 2 ^ 32 → seq < 2 ^ 32 → IsValid m → length m.rows ≤ 8388608
      → text ≡ cache_text indexid seq (held_rows (mail_at folder) m.rows) → IsCacheText indexid seq mail m text
  is_text indexid seq text p q valid few is = record {
    wide = (p, q);
    writable = cached_writable mail m valid few;
    is = is ∙ text_same (mail_at folder) indexid seq m ∙ ap (cache_text indexid seq) rows_same;
  }
