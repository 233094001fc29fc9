-- A save: the next id, with its place and one reference.
use Rattle.std.proofs.Common.{◌≡◌, ◌≢◌, ⊎_elim, ℕ, ◌+◌, ◌^◌, ◌<◌, Bool, false, cond, eq-eqb, List, [], ◌∷◌, ◌++◌, map, Option, None, Some, refl, sym, ◌∙◌, ap, subst, arith, inl}
use Rattle.std.specs.Prelude.{All, codes, drop, nat_lt, replicate, take}
use Rattle.std.specs.Int.{w32, from_le_bytes}
use Rattle.std.specs.Option.{option_and_then, option_map}
use Rattle.std.proofs.lemmas.Bool.{ne_eqb}
use Rattle.std.proofs.lemmas.Bool.Decides.{nat_tests}
use Rattle.std.proofs.lemmas.List.Elements.{All-head, All-tail}
use Rattle.std.proofs.lemmas.Nat.{from_le_bytes-to_le_bytes_2, from_le_bytes-to_le_bytes_4}
use Rattle.dv_model.specs.declared.types.Current.{Current}
use Rattle.dv_model.specs.declared.types.Extension.{Extension}
use Rattle.dv_model.specs.declared.types.Mailbox.{Mailbox}
use Rattle.dv_model.specs.declared.types.NewRow.{NewRow}
use Rattle.dv_model.specs.declared.types.Record.{Record}
use Rattle.dv_model.specs.declared.types.Row.{Row}
use Rattle.dv_model.specs.Effects.{applied, fresh_row, on_current, stamped, with_higher, with_intro, with_item, with_row, with_updates}
use Rattle.dv_model.specs.Journals.{Held}
use Rattle.dv_model.specs.Mailboxes.{IsRowOf, IsValid}
use Rattle.dv_shelf.specs.Folders.{Folder}
use Rattle.dv_maps.specs.declared.place.Place.{Place}
use Rattle.dv_maps.specs.declared.mapped.Placed.{Placed}
use Rattle.dv_maps.specs.Groups.{count_records, count_row, intro_of, map_intro, place_row, save_records, update_of}
use Rattle.dv_maps.specs.Laws.{IsMap, IsPlace, Saves, SavesAre, extension_of, map_extensions}
use Rattle.dv_maps.specs.Maps.{count_of, place_of}
use Rattle.dv_maps.specs.Storages.{Item, item_of}
use Rattle.dv_maps.specs.Texts.{HasText, Messages, text_at, with_message}
use Rattle.dv_maps.proofs.Counting.{IsWith, are_sized, count_with, count_written, ref_current}
use Rattle.dv_maps.proofs.Keys.{AreSized, IsSized, Key, KeyHas, KeysHave, changed_key, each, items_by, key, key_item, keys, keys_mapped, map_grown, stamp_keys, texts_from, texts_of, update_keys}

-- ---- lists of keys

keys_pushed : (rows : List Row) (row : Row) → keys (rows ++ row ∷ []) ≡ keys rows ++ key row ∷ []
keys_pushed [] row = refl
keys_pushed (r ∷ rows) row = ap (λ (ks : List Key). key r ∷ ks) (keys_pushed rows row)

pub each_pushed : {X Y : Type 0} (f : X → Y) (xs : List X) (x : X) → each f (xs ++ x ∷ []) ≡ each f xs ++ f x ∷ []
each_pushed f [] x = refl
each_pushed f (y ∷ xs) x = ap (λ ys. f y ∷ ys) (each_pushed f xs x)

sized_pushed : (ks : List Key) (k : Key) → AreSized ks → IsSized k.1 → AreSized (ks ++ k ∷ [])
sized_pushed [] k sized is = (is, tt {0})
sized_pushed (j ∷ ks) k sized is = (sized.0, sized_pushed ks k sized.1 is)

have_pushed : (messages : Messages) (folder : Folder) (ks : List Key) (k : Key) → KeysHave messages folder ks → KeyHas messages folder k → KeysHave messages folder (ks ++ k ∷ [])
have_pushed messages folder [] k have has = (has, tt {0})
have_pushed messages folder (j ∷ ks) k have has = (have.0, have_pushed messages folder ks k have.1 has)

-- the ids are below a number
abbrev AreBelow : ℕ → List Key → Type 0
AreBelow n [] = Unit {0}
AreBelow n (k ∷ ks) = (k.0 < n) × AreBelow n ks

below_of : (m : Mailbox) (rows : List Row) → All (IsRowOf m) rows → AreBelow m.next_uid (keys rows)
below_of m [] all = tt {0}
below_of m (row ∷ rows) all = ((All-head (IsRowOf m) row rows all).uid.1, below_of m rows (All-tail (IsRowOf m) row rows all))

-- ---- the records

abbrev pub map_current : Current
map_current = record { extension = 0; size = 12 }

abbrev map_extension : Extension
map_extension = extension_of (codes "map") 12 4

abbrev zeros : ℕ → List ℕ
zeros n = replicate n 0

-- a row is appended
appended_is : (m : Mailbox) (es : List Extension) → m.extensions ≡ es → (n : Mailbox) → n ≡ stamped m.rows (with_row (with_higher m) (record { uid = m.next_uid; flags = 0 }))
    → (n.next_uid ≡ m.next_uid + 1) × (n.extensions ≡ es) × (keys n.rows ≡ keys m.rows ++ (m.next_uid, map (λ (e : Extension). zeros e.record_size) es) ∷ [])
appended_is m es own n is =
    let new : NewRow = record { uid = m.next_uid; flags = 0 } in
    let rows : keys (stamped m.rows (with_row (with_higher m) new)).rows ≡ keys m.rows ++ key (fresh_row (with_higher m) new) ∷ [] = stamp_keys m.rows _ _ ∙ keys_pushed m.rows (fresh_row (with_higher m) new) in (
      ap (λ (k : Mailbox). k.next_uid) is,
      ap (λ (k : Mailbox). k.extensions) is ∙ own,
      ap (λ (k : Mailbox). keys k.rows) is ∙ rows ∙ ap (λ (xs : List Extension). keys m.rows ++ (m.next_uid, map (λ (e : Extension). zeros e.record_size) xs) ∷ []) own,
    )

map_base : (m : Mailbox) → AreSized (keys m.rows)
    → IsWith m (stamped m.rows (with_intro (with_higher (record m { extensions = map_extensions })) (intro_of (codes "map") 12 4))) map_extensions (keys m.rows) (Some map_current)
map_base m sized = record {
  next = refl;
  extensions = refl;
  current = refl;
  rows = stamp_keys m.rows _ _ ∙ map_grown m.rows sized;
}

-- `map` is introduced again
pub map_again : (m : Mailbox) → m.extensions ≡ map_extensions → AreSized (keys m.rows) → IsWith m (stamped m.rows (with_intro (with_higher m) (intro_of (codes "map") 12 4))) map_extensions (keys m.rows) (Some map_current)
map_again m own sized =
    subst (λ (es : List Extension). IsWith m (stamped m.rows (with_intro (with_higher (record m { extensions = es })) (intro_of (codes "map") 12 4))) map_extensions (keys m.rows) (Some map_current)) (sym own) (map_base m sized)

-- a key with one part more
abbrev wider : ℕ → Key → Key
wider n k = (k.0, k.1 ++ zeros n ∷ [])

map_first_base : (m : Mailbox)
    → IsWith m (stamped m.rows (with_intro (with_higher (record m { extensions = [] })) (intro_of (codes "map") 12 4))) (map_extension ∷ []) (each (wider 12) (keys m.rows)) (Some map_current)
map_first_base m = record {
  next = refl;
  extensions = refl;
  current = refl;
  rows = stamp_keys m.rows _ _ ∙ keys_mapped (λ row. record row { parts = row.parts ++ zeros 12 ∷ [] }) (wider 12) (λ row. refl) m.rows;
}

-- `map` is introduced first
map_first : (m : Mailbox) → m.extensions ≡ [] → IsWith m (stamped m.rows (with_intro (with_higher m) (intro_of (codes "map") 12 4))) (map_extension ∷ []) (each (wider 12) (keys m.rows)) (Some map_current)
map_first m none =
    subst
    (λ (es : List Extension). IsWith m (stamped m.rows (with_intro (with_higher (record m { extensions = es })) (intro_of (codes "map") 12 4))) (map_extension ∷ []) (each (wider 12) (keys m.rows)) (Some map_current))
    (sym none) (map_first_base m)

ref_first_base : (m : Mailbox)
    → IsWith m (stamped m.rows (with_intro (with_higher (record m { extensions = map_extension ∷ [] })) (intro_of (codes "ref") 2 2))) map_extensions (each (wider 2) (keys m.rows)) (Some ref_current)
ref_first_base m = record {
  next = refl;
  extensions = refl;
  current = refl;
  rows = stamp_keys m.rows _ _ ∙ keys_mapped (λ row. record row { parts = row.parts ++ zeros 2 ∷ [] }) (wider 2) (λ row. refl) m.rows;
}

-- and `ref`
ref_first : (m : Mailbox) → m.extensions ≡ map_extension ∷ [] → IsWith m (stamped m.rows (with_intro (with_higher m) (intro_of (codes "ref") 2 2))) map_extensions (each (wider 2) (keys m.rows)) (Some ref_current)
ref_first m one =
    subst
    (λ (es : List Extension). IsWith m (stamped m.rows (with_intro (with_higher (record m { extensions = es })) (intro_of (codes "ref") 2 2))) map_extensions (each (wider 2) (keys m.rows)) (Some ref_current))
    (sym one) (ref_first_base m)

place_base : (n : Mailbox) (row : Placed) (es : List Extension) → n.extensions ≡ es
    → IsWith n (stamped n.rows (on_current (with_higher (record n { current = Some map_current })) (with_updates (place_row row) (with_higher (record n { current = Some map_current }))))) es
    (each (changed_key map_current (place_row row)) (keys n.rows)) (Some map_current)
place_base n row es own = record {
  next = refl;
  extensions = own;
  current = refl;
  rows = stamp_keys n.rows _ _ ∙ update_keys map_current (place_row row) n.rows;
}

-- a place is written
place_written : (n : Mailbox) (row : Placed) (es : List Extension) → n.extensions ≡ es → n.current ≡ Some map_current
    → IsWith n (stamped n.rows (on_current (with_higher n) (with_updates (place_row row) (with_higher n)))) es (each (changed_key map_current (place_row row)) (keys n.rows)) (Some map_current)
place_written n row es own current =
    subst
    (λ (c : Option Current).
    IsWith n (stamped n.rows (on_current (with_higher (record n { current = c })) (with_updates (place_row row) (with_higher (record n { current = c }))))) es (each (changed_key map_current (place_row row)) (keys n.rows))
    (Some map_current)) (sym current) (place_base n row es own)

-- ---- the keys

module _ (id : ℕ) (uid : id < 2 ^ 32) (c : Current) (update : List ℕ) (here : from_le_bytes w32 (take 4 update) ≡ id) where
  abbrev over : List ℕ → List ℕ
  over part = take c.size (drop 4 update) ++ drop c.size part

  other_key : (k : Key) → k.0 < id → changed_key c update k ≡ k
  other_key k less =
      let other : from_le_bytes w32 (take 4 update) ≢ k.0 = λ e. let same : id ≡ k.0 = sym here ∙ e in absurd (omega (arith, same, less)) in
      ap (λ (b : Bool). cond b (k.0, with_item c.extension over k.1) k) (ne_eqb (from_le_bytes w32 (take 4 update)) k.0 other)

  own_key : (parts : List (List ℕ)) → changed_key c update (id, parts) ≡ (id, with_item c.extension over parts)
  own_key parts = ap (λ (b : Bool). cond b (id, with_item c.extension over parts) (id, parts)) (eq-eqb (from_le_bytes w32 (take 4 update)) id here)

  other_keys : (ks : List Key) → AreBelow id ks → each (changed_key c update) ks ≡ ks
  other_keys [] below = refl
  other_keys (k ∷ ks) below = λ i. other_key k below.0 i ∷ other_keys ks below.1 i

  pushed_keys : (ks : List Key) (parts : List (List ℕ)) → AreBelow id ks → each (changed_key c update) (ks ++ (id, parts) ∷ []) ≡ ks ++ (id, with_item c.extension over parts) ∷ []
  pushed_keys ks parts below = each_pushed (changed_key c update) ks (id, parts) ∙ (λ i. other_keys ks below i ++ own_key parts i ∷ [])

-- ---- the save

module _ (id : ℕ) (uid : id < 2 ^ 32) (place : Place) (after : Mailbox) where
  abbrev row : Placed
  row = record { id = id; place = place }

  abbrev rest : List Record
  rest = map_intro ∷ update_of (place_row row) ∷ count_records id 1

  abbrev place_part : List ℕ
  place_part = take 12 (drop 4 (place_row row)) ++ drop 12 (zeros 12)

  abbrev count_part : List ℕ
  count_part = take 2 (drop 4 (count_row id 1)) ++ drop 2 (zeros 2)

  -- what stands for the new id
  abbrev new_key : Key
  new_key = (id, place_part ∷ count_part ∷ [])

  place_here : from_le_bytes w32 (take 4 (place_row row)) ≡ id
  place_here = from_le_bytes-to_le_bytes_4 id uid

  count_here : from_le_bytes w32 (take 4 (count_row id 1)) ≡ id
  count_here = from_le_bytes-to_le_bytes_4 id uid

  -- the map had rows before, or the extensions
  own_rest : (n : Mailbox) (ks : List Key) → n.extensions ≡ map_extensions → AreSized ks → AreBelow id ks → keys n.rows ≡ ks ++ (id, zeros 12 ∷ zeros 2 ∷ []) ∷ [] → applied n rest ≡ Some after
      → IsWith n after map_extensions (ks ++ new_key ∷ []) (Some ref_current)
  own_rest n ks own sized below is gives =
      let sized_n : AreSized (keys n.rows) = subst AreSized (sym is) (sized_pushed ks (id, zeros 12 ∷ zeros 2 ∷ []) sized (refl, refl)) in
      let two : Mailbox = stamped n.rows (with_intro (with_higher n) (intro_of (codes "map") 12 4)) in
      let is_two = map_again n own sized_n in
      let three : Mailbox = stamped two.rows (on_current (with_higher two) (with_updates (place_row row) (with_higher two))) in
      let is_three = place_written two row map_extensions is_two.extensions is_two.current in
      let keys_three : keys three.rows ≡ ks ++ (id, place_part ∷ zeros 2 ∷ []) ∷ [] =
      is_three.rows ∙ ap (each (changed_key map_current (place_row row))) (is_two.rows ∙ is) ∙ pushed_keys id uid map_current (place_row row) place_here ks (zeros 12 ∷ zeros 2 ∷ []) below in
      let sized_three : AreSized (keys three.rows) = subst AreSized (sym keys_three) (sized_pushed ks (id, place_part ∷ zeros 2 ∷ []) sized (refl, refl)) in
      let last = count_with three id 1 is_three.extensions sized_three after gives in
      record {
        next = last.next ∙ is_three.next ∙ is_two.next;
        extensions = last.extensions;
        current = last.current;
        rows = last.rows ∙ ap (each (changed_key ref_current (count_row id 1))) keys_three ∙ pushed_keys id uid ref_current (count_row id 1) count_here ks (place_part ∷ zeros 2 ∷ []) below;
      }

  -- it is a new one
  new_rest : (n : Mailbox) → n.extensions ≡ [] → keys n.rows ≡ (id, []) ∷ [] → applied n rest ≡ Some after → IsWith n after map_extensions (new_key ∷ []) (Some ref_current)
  new_rest n none is gives =
      let two : Mailbox = stamped n.rows (with_intro (with_higher n) (intro_of (codes "map") 12 4)) in
      let is_two = map_first n none in
      let three : Mailbox = stamped two.rows (on_current (with_higher two) (with_updates (place_row row) (with_higher two))) in
      let is_three = place_written two row (map_extension ∷ []) is_two.extensions is_two.current in
      let keys_three : keys three.rows ≡ (id, place_part ∷ []) ∷ [] =
      is_three.rows ∙ ap (each (changed_key map_current (place_row row))) (is_two.rows ∙ ap (each (wider 12)) is) ∙ pushed_keys id uid map_current (place_row row) place_here [] (zeros 12 ∷ []) (tt {0}) in
      let four : Mailbox = stamped three.rows (with_intro (with_higher three) (intro_of (codes "ref") 2 2)) in
      let is_four = ref_first three is_three.extensions in
      let five : Mailbox = stamped four.rows (on_current (with_higher four) (with_updates (count_row id 1) (with_higher four))) in
      let is_five = count_written four id 1 map_extensions is_four.extensions is_four.current in
      let made : Some five ≡ Some after = gives in
      let same : five ≡ after = cc in
      subst (λ (k : Mailbox). IsWith n k map_extensions (new_key ∷ []) (Some ref_current)) same
      (record {
        next = is_five.next ∙ is_four.next ∙ is_three.next ∙ is_two.next;
        extensions = is_five.extensions;
        current = is_five.current;
        rows = is_five.rows ∙ ap (each (changed_key ref_current (count_row id 1))) (is_four.rows ∙ ap (each (wider 2)) keys_three)
            ∙ pushed_keys id uid ref_current (count_row id 1) count_here [] (place_part ∷ zeros 2 ∷ []) (tt {0});
      })

  pub new_place : IsPlace place → place_of map_extensions (place_part ∷ count_part ∷ []) ≡ place
  new_place is = λ i. record {
    file = from_le_bytes-to_le_bytes_4 place.file is.file i;
    offset = from_le_bytes-to_le_bytes_4 place.offset is.offset i;
    size = from_le_bytes-to_le_bytes_4 place.size is.size i;
  }

  new_count : count_of map_extensions (place_part ∷ count_part ∷ []) ≡ 1
  new_count = from_le_bytes-to_le_bytes_2 1 (omega arith)

-- ---- what is known of the messages

pub message_else : (id : ℕ) (message : List ℕ) (messages : Messages) (n : ℕ) → n < id → with_message id message messages n ≡ messages n
message_else id message messages n less =
    let other : n ≢ id = λ e. absurd (omega (arith, e, less)) in
    ap (λ (b : Bool). cond b (Some message) (messages n)) (ne_eqb n id other)

message_here : (id : ℕ) (message : List ℕ) (messages : Messages) → with_message id message messages id ≡ Some message
message_here id message messages = ap (λ (b : Bool). cond b (Some message) (messages id)) (eq-eqb id id refl)

old_items : (id : ℕ) (message : List ℕ) (messages : Messages) (ks : List Key) → AreBelow id ks → each (key_item (with_message id message messages)) ks ≡ each (key_item messages) ks
old_items id message messages [] below = refl
old_items id message messages (k ∷ ks) below =
    λ i. record { id = k.0; count = count_of map_extensions k.1; message = message_else id message messages k.0 below.0 i } ∷ old_items id message messages ks below.1 i

old_texts : (id : ℕ) (message : List ℕ) (messages : Messages) (folder : Folder) (ks : List Key) → AreBelow id ks → KeysHave messages folder ks → KeysHave (with_message id message messages) folder ks
old_texts id message messages folder [] below have = tt {0}
old_texts id message messages folder (k ∷ ks) below have =
    ((λ some saved is. have.0 some saved (sym (message_else id message messages k.0 below.0) ∙ is)), old_texts id message messages folder ks below.1 have.1)

-- ---- the law

module _ (m after : Mailbox) (place : Place) (is : IsPlace place) (uid : m.next_uid < 2 ^ 32) where
  abbrev id : ℕ
  id = m.next_uid

  abbrev pub made_key : Key
  made_key = new_key id uid place after

  pub record IsSaved : Type 0 where
    pub next : after.next_uid ≡ id + 1
    pub extensions : after.extensions ≡ map_extensions
    pub rows : keys after.rows ≡ keys m.rows ++ made_key ∷ []

  appended : applied m (save_records id place) ≡ Some after → applied (stamped m.rows (with_row (with_higher m) (record { uid = id; flags = 0 }))) (rest id uid place after) ≡ Some after
  appended gives =
      let test : nat_lt id id ≡ false = grind (arith, nat_tests) in
      subst (λ (b : Bool). option_and_then (λ n. applied n (rest id uid place after)) (option_map (stamped m.rows) (cond b None (Some (with_row (with_higher m) (record { uid = id; flags = 0 }))))) ≡ Some after) test gives

  saved_own : m.extensions ≡ map_extensions → IsValid m → applied m (save_records id place) ≡ Some after → IsSaved
  saved_own own valid gives =
      let one : Mailbox = stamped m.rows (with_row (with_higher m) (record { uid = id; flags = 0 })) in
      let is_one = appended_is m map_extensions own one refl in
      let last = own_rest id uid place after one (keys m.rows) is_one.1 (are_sized m own valid) (below_of m m.rows valid.rows) is_one.2 (appended gives) in
      record { next = last.next ∙ is_one.0; extensions = last.extensions; rows = last.rows }

  saved_new : m.extensions ≡ [] → m.rows ≡ [] → applied m (save_records id place) ≡ Some after → IsSaved
  saved_new none no_rows gives =
      let one : Mailbox = stamped m.rows (with_row (with_higher m) (record { uid = id; flags = 0 })) in
      let is_one = appended_is m [] none one refl in
      let start : keys m.rows ≡ [] = ap keys no_rows in
      let last = new_rest id uid place after one is_one.1 (is_one.2 ∙ ap (λ (ks : List Key). ks ++ (id, []) ∷ []) start) (appended gives) in
      record { next = last.next ∙ is_one.0; extensions = last.extensions; rows = last.rows ∙ ap (λ (ks : List Key). ks ++ made_key ∷ []) (sym start) }

  -- in either case
  pub map_saved : IsMap m → IsValid m → applied m (save_records id place) ≡ Some after → IsSaved
  map_saved map_is valid gives = ⊎_elim (λ own. saved_own own valid gives) (λ none. saved_new none.0 none.1 gives) map_is

  -- the old items by keys, in either case
  old_by : IsMap m → (messages : Messages) → map (item_of messages m) m.rows ≡ each (key_item messages) (keys m.rows)
  old_by map_is messages =
      ⊎_elim (λ own. items_by messages m own m.rows)
      (λ none. subst (λ (rows : List Row). map (item_of messages m) rows ≡ each (key_item messages) (keys rows)) (sym none.1) refl) map_is

  old_have : IsMap m → (messages : Messages) (folder : Folder) → All (HasText messages m folder) m.rows → KeysHave messages folder (keys m.rows)
  old_have map_is messages folder all =
      ⊎_elim (λ own. texts_of messages m folder own m.rows all)
      (λ none. subst (λ (rows : List Row). KeysHave messages folder (keys rows)) (sym none.1) (tt {0})) map_is

  saves_by : IsMap m → AreBelow id (keys m.rows) → IsSaved → Saves place m after
  saves_by map_is below saved = record {
    map = inl saved.extensions;
    storage = λ messages message.
        let now : Messages = with_message id message messages in
        let place_is = new_place id uid place after is in
        λ i. record {
          next = saved.next i;
          items = (items_by now after saved.extensions after.rows ∙ ap (each (key_item now)) saved.rows ∙ each_pushed (key_item now) (keys m.rows) made_key
              ∙ (λ j. old_items id message messages (keys m.rows) below j ++ record { id = id; count = new_count id uid place after j; message = message_here id message messages j } ∷ [])
              ∙ ap (λ (items : List Item). items ++ record { id = id; count = 1; message = Some message } ∷ []) (sym (old_by map_is messages))) i;
        };
    keeps = λ messages message folder all there.
        let now : Messages = with_message id message messages in
        let place_is = new_place id uid place after is in
        texts_from now after folder saved.extensions after.rows
        (subst (KeysHave now folder) (sym saved.rows)
        (have_pushed now folder (keys m.rows) made_key (old_texts id message messages folder (keys m.rows) below (old_have map_is messages folder all))
        (λ some known know.
        let same : Some message ≡ Some known = sym (message_here id message messages) ∙ know in
        let is_known : message ≡ known = cc in
        ap (text_at folder) place_is ∙ there ∙ ap (λ (x : List ℕ). Held x) is_known)));
  }

pub saves_are : SavesAre
saves_are m after place map_is valid low is gives =
    let uid : m.next_uid < 2 ^ 32 = omega (arith, low) in
    let saved : IsSaved m after place is uid = map_saved m after place is uid map_is valid gives in
    saves_by m after place is uid map_is (below_of m m.rows valid.rows) saved
