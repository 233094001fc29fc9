-- Where the texts stand, behind a copy, a drop and a save.
use Rattle.std.proofs.Common.{◌≡◌, ⊎_elim, ℕ, ◌<◌, ◌^◌, Bool, true, false, cond, List, [], ◌∷◌, ◌++◌, map, nat_eq, Some, refl, sym, ◌∙◌, ap, subst}
use Rattle.std.specs.Prelude.{drop, take}
use Rattle.std.specs.Int.{w32, from_le_bytes}
use Rattle.dv_model.specs.declared.types.Mailbox.{Mailbox}
use Rattle.dv_model.specs.declared.types.Row.{Row}
use Rattle.dv_model.specs.Effects.{applied}
use Rattle.dv_model.specs.Mailboxes.{IsValid}
use Rattle.dv_maps.specs.declared.place.Place.{Place}
use Rattle.dv_maps.specs.Groups.{count_records, count_row, save_records}
use Rattle.dv_maps.specs.Laws.{HasPlaces, IsMap, IsPlace, PlacesAre, map_extensions}
use Rattle.dv_maps.specs.Maps.{place_of, places_of, row_place}
use Rattle.dv_maps.proofs.Counting.{are_sized, count_with, ref_current}
use Rattle.dv_maps.proofs.Keys.{AreSized, IsSized, Key, changed_key, each, keys}
use Rattle.dv_maps.proofs.Saving.{IsSaved, each_pushed, made_key, map_saved, new_place}

abbrev key_place : Key → Place
key_place k = place_of map_extensions k.1

places_by : (m : Mailbox) → m.extensions ≡ map_extensions → (rows : List Row) → map (row_place m) rows ≡ each key_place (keys rows)
places_by m own [] = refl
places_by m own (row ∷ rows) = λ i. place_of (own i) row.parts ∷ places_by m own rows i

-- a part with another count
abbrev over : ℕ → ℕ → List ℕ → List ℕ
over id new part = take 2 (drop 4 (count_row id new)) ++ drop 2 part

-- a count says nothing of it
place_counted : (id new : ℕ) (k : Key) → IsSized k.1 → key_place (changed_key ref_current (count_row id new) k) ≡ key_place k
place_counted id new (u, []) sized = absurd sized
place_counted id new (u, p ∷ []) sized = absurd sized
place_counted id new (u, p ∷ q ∷ r ∷ rest) sized = absurd sized
place_counted id new (u, p ∷ q ∷ []) sized = by_test (nat_eq (from_le_bytes w32 (take 4 (count_row id new))) u)
  where
    by_test : (b : Bool) → key_place (cond b (u, p ∷ over id new q ∷ []) (u, p ∷ q ∷ [])) ≡ key_place (u, p ∷ q ∷ [])
    by_test true = refl
    by_test false = refl

places_counted : (id new : ℕ) (ks : List Key) → AreSized ks → each key_place (each (changed_key ref_current (count_row id new)) ks) ≡ each key_place ks
places_counted id new [] sized = refl
places_counted id new (k ∷ ks) sized = λ i. place_counted id new k sized.0 i ∷ places_counted id new ks sized.1 i

counts : (m after : Mailbox) (id count : ℕ) → m.extensions ≡ map_extensions → IsValid m → applied m (count_records id count) ≡ Some after → HasPlaces after (places_of m)
counts m after id count own valid gives =
    let sized = are_sized m own valid in
    let is = count_with m id count own sized after gives in (
      is.extensions,
      places_by after is.extensions after.rows ∙ ap (each key_place) is.rows ∙ places_counted id count (keys m.rows) sized ∙ sym (places_by m own m.rows),
    )

-- the places of a map are those of its keys, also of a new one
places_of_map : (m : Mailbox) → IsMap m → map (row_place m) m.rows ≡ each key_place (keys m.rows)
places_of_map m is =
    ⊎_elim (λ own. places_by m own m.rows)
    (λ none. subst (λ (rows : List Row). map (row_place m) rows ≡ each key_place (keys rows)) (sym none.1) refl) is

saves : (m after : Mailbox) (place : Place) → IsMap m → IsValid m → IsPlace place → applied m (save_records m.next_uid place) ≡ Some after → HasPlaces after (places_of m ++ place ∷ [])
saves m after place map_is valid is gives =
    let uid : m.next_uid < 2 ^ 32 = valid.next_uid.1 in
    let saved : IsSaved m after place is uid = map_saved m after place is uid map_is valid gives in (
      saved.extensions,
      places_by after saved.extensions after.rows ∙ ap (each key_place) saved.rows ∙ each_pushed key_place (keys m.rows) (made_key m after place is uid)
          ∙ (λ i. each key_place (keys m.rows) ++ new_place m.next_uid uid place after is i ∷ []) ∙ ap (λ (places : List Place). places ++ place ∷ []) (sym (places_of_map m map_is)),
    )

pub places_are : PlacesAre
places_are = record { counts = counts; saves = saves }
