-- A copy and a drop: the count of one id is another.
use Rattle.std.proofs.Common.{◌≡◌, ◌≢◌, ⊎_elim, ℕ, ◌^◌, ◌<◌, ◌≤◌, Bool, true, false, cond, eq-eqb, List, [], ◌∷◌, ◌++◌, length, map, nat_eq, Option, Some, refl, sym, ◌∙◌, ap, subst, arith, inl}
use Rattle.std.specs.Prelude.{All, codes, drop, take}
use Rattle.std.specs.Int.{w32, from_le_bytes}
use Rattle.std.proofs.lemmas.Bool.{eqb-true, ne_eqb}
use Rattle.std.proofs.lemmas.List.Elements.{All-head, All-tail}
use Rattle.std.proofs.lemmas.Nat.{from_le_bytes-to_le_bytes_2, from_le_bytes-to_le_bytes_4}
use Rattle.dv_model.specs.declared.types.Current.{Current}
use Rattle.dv_model.specs.declared.types.Extension.{Extension}
use Rattle.dv_model.specs.declared.types.Mailbox.{Mailbox}
use Rattle.dv_model.specs.declared.types.Row.{Row}
use Rattle.dv_model.specs.Effects.{applied, on_current, stamped, with_higher, with_intro, with_updates}
use Rattle.dv_model.specs.Mailboxes.{IsRowOf, IsValid}
use Rattle.dv_shelf.specs.Folders.{Folder}
use Rattle.dv_maps.specs.Groups.{count_records, count_row, intro_of}
use Rattle.dv_maps.specs.Laws.{CountsAre, IsMap, map_extensions}
use Rattle.dv_maps.specs.Maps.{count_of, row_count}
use Rattle.dv_maps.specs.Storages.{Item, counted, item_of}
use Rattle.dv_maps.specs.Texts.{Messages}
use Rattle.dv_maps.proofs.Keys.{AreSized, IsSized, Key, KeyHas, KeysHave, changed_key, each, items_by, key_item, keys, ref_grown, stamp_keys, texts_from, texts_of, update_keys}

-- ---- the records

-- a map with these extensions, of which this is current, and these keys, whose next id is that of
-- another
pub record IsWith (m n : Mailbox) (es : List Extension) (ks : List Key) (c : Option Current) : Type 0 where
  pub next : n.next_uid ≡ m.next_uid
  pub extensions : n.extensions ≡ es
  pub current : n.current ≡ c
  pub rows : keys n.rows ≡ ks

abbrev pub ref_current : Current
ref_current = record { extension = 1; size = 2 }

ref_base : (m : Mailbox) → AreSized (keys m.rows)
    → IsWith m (stamped m.rows (with_intro (with_higher (record m { extensions = map_extensions })) (intro_of (codes "ref") 2 2))) map_extensions (keys m.rows) (Some ref_current)
ref_base m sized = record {
  next = refl;
  extensions = refl;
  current = refl;
  rows = stamp_keys m.rows _ _ ∙ ref_grown m.rows sized;
}

-- `ref` is introduced again
pub ref_again : (m : Mailbox) → m.extensions ≡ map_extensions → AreSized (keys m.rows) → IsWith m (stamped m.rows (with_intro (with_higher m) (intro_of (codes "ref") 2 2))) map_extensions (keys m.rows) (Some ref_current)
ref_again m own sized =
    subst (λ (es : List Extension). IsWith m (stamped m.rows (with_intro (with_higher (record m { extensions = es })) (intro_of (codes "ref") 2 2))) map_extensions (keys m.rows) (Some ref_current)) (sym own) (ref_base m sized)

count_base : (n : Mailbox) (id new : ℕ) (es : List Extension) → n.extensions ≡ es
    → IsWith n (stamped n.rows (on_current (with_higher (record n { current = Some ref_current })) (with_updates (count_row id new) (with_higher (record n { current = Some ref_current })))))
    es (each (changed_key ref_current (count_row id new)) (keys n.rows)) (Some ref_current)
count_base n id new es own = record {
  next = refl;
  extensions = own;
  current = refl;
  rows = stamp_keys n.rows _ _ ∙ update_keys ref_current (count_row id new) n.rows;
}

-- a count is written
pub count_written : (n : Mailbox) (id new : ℕ) (es : List Extension) → n.extensions ≡ es → n.current ≡ Some ref_current
    → IsWith n (stamped n.rows (on_current (with_higher n) (with_updates (count_row id new) (with_higher n)))) es (each (changed_key ref_current (count_row id new)) (keys n.rows)) (Some ref_current)
count_written n id new es own current =
    subst
    (λ (c : Option Current).
    IsWith n (stamped n.rows (on_current (with_higher (record n { current = c })) (with_updates (count_row id new) (with_higher (record n { current = c }))))) es (each (changed_key ref_current (count_row id new)) (keys n.rows))
    (Some ref_current)) (sym current) (count_base n id new es own)

-- both
module _ (m : Mailbox) (id new : ℕ) (own : m.extensions ≡ map_extensions) (sized : AreSized (keys m.rows)) where
  pub count_with : (after : Mailbox) → applied m (count_records id new) ≡ Some after → IsWith m after map_extensions (each (changed_key ref_current (count_row id new)) (keys m.rows)) (Some ref_current)
  count_with after gives =
      let n : Mailbox = stamped m.rows (with_intro (with_higher m) (intro_of (codes "ref") 2 2)) in
      let is = ref_again m own sized in
      let more = count_written n id new map_extensions is.extensions is.current in
      let last : Mailbox = stamped n.rows (on_current (with_higher n) (with_updates (count_row id new) (with_higher n))) in
      let made : Some last ≡ Some after = gives in
      let same : last ≡ after = cc in
      subst (λ (k : Mailbox). IsWith m k map_extensions (each (changed_key ref_current (count_row id new)) (keys m.rows)) (Some ref_current)) same
      (record {
        next = more.next ∙ is.next;
        extensions = more.extensions;
        current = more.current;
        rows = more.rows ∙ ap (each (changed_key ref_current (count_row id new))) is.rows;
      })

-- ---- what a key is then

module _ (id old new : ℕ) (change : ℕ → ℕ) (uid : id < 2 ^ 32) (short : new < 2 ^ 16) (some : 1 ≤ old) (to : change old ≡ new) where
  here_is : from_le_bytes w32 (take 4 (count_row id new)) ≡ id
  here_is = from_le_bytes-to_le_bytes_4 id uid

  abbrev over : List ℕ → List ℕ
  over part = take 2 (drop 4 (count_row id new)) ++ drop 2 part

  item_at : (messages : Messages) (u : ℕ) (p q : List ℕ) → u ≡ id → count_of map_extensions (p ∷ q ∷ []) ≡ old
      → key_item messages (u, p ∷ over q ∷ []) ≡ counted id change (key_item messages (u, p ∷ q ∷ []))
  item_at messages u p q is count =
      let now : count_of map_extensions (p ∷ over q ∷ []) ≡ new = from_le_bytes-to_le_bytes_2 new short in
      let made : Item = record { id = u; count = change (count_of map_extensions (p ∷ q ∷ [])); message = messages u } in
      let test : nat_eq u id ≡ true = eq-eqb u id is in
      (λ i. record { id = u; count = (now ∙ sym to ∙ ap change (sym count)) i; message = messages u })
      ∙ sym (ap (λ (b : Bool). cond b made (key_item messages (u, p ∷ q ∷ []))) test)

  item_by : (messages : Messages) (k : Key) → IsSized k.1 → (k.0 ≡ id → count_of map_extensions k.1 ≡ old) → (b : Bool) → nat_eq (from_le_bytes w32 (take 4 (count_row id new))) k.0 ≡ b
      → key_item messages (changed_key ref_current (count_row id new) k) ≡ counted id change (key_item messages k)
  item_by messages (u, []) sized count b test = absurd sized
  item_by messages (u, p ∷ []) sized count b test = absurd sized
  item_by messages (u, p ∷ q ∷ r ∷ rest) sized count b test = absurd sized
  item_by messages (u, p ∷ q ∷ []) sized count true test =
      let same : u ≡ id = sym (eqb-true (from_le_bytes w32 (take 4 (count_row id new))) u test) ∙ here_is in
      ap (λ (b : Bool). key_item messages (cond b (u, p ∷ over q ∷ []) (u, p ∷ q ∷ []))) test ∙ item_at messages u p q same (count same)
  item_by messages (u, p ∷ q ∷ []) sized count false test =
      let made : Item = record { id = u; count = change (count_of map_extensions (p ∷ q ∷ [])); message = messages u } in
      let other : u ≢ id = λ e. let yes : nat_eq (from_le_bytes w32 (take 4 (count_row id new))) u ≡ true = eq-eqb (from_le_bytes w32 (take 4 (count_row id new))) u (here_is ∙ sym e) in absurd (let no : true ≡ false = sym yes ∙ test in cc) in
      ap (λ (b : Bool). key_item messages (cond b (u, p ∷ over q ∷ []) (u, p ∷ q ∷ []))) test
      ∙ sym (ap (λ (b : Bool). cond b made (key_item messages (u, p ∷ q ∷ []))) (ne_eqb u id other))

  -- the count of each key of the id
  abbrev HaveCount : List Key → Type 0
  HaveCount [] = Unit {0}
  HaveCount (k ∷ ks) = (k.0 ≡ id → count_of map_extensions k.1 ≡ old) × HaveCount ks

  pub counts_of : (m : Mailbox) → m.extensions ≡ map_extensions → (rows : List Row) → All (λ row. row.uid ≡ id → row_count m row ≡ old) rows → HaveCount (keys rows)
  counts_of m own [] all = tt {0}
  counts_of m own (row ∷ rows) all = (
    λ is. subst (λ (es : List Extension). count_of es row.parts ≡ old) own (All-head (λ row. row.uid ≡ id → row_count m row ≡ old) row rows all is),
    counts_of m own rows (All-tail (λ row. row.uid ≡ id → row_count m row ≡ old) row rows all),
  )

  pub items_counted : (messages : Messages) (ks : List Key) → AreSized ks → HaveCount ks → each (key_item messages) (each (changed_key ref_current (count_row id new)) ks) ≡ each (counted id change) (each (key_item messages) ks)
  items_counted messages [] sized have = refl
  items_counted messages (k ∷ ks) sized have = λ i. item_by messages k sized.0 have.0 (nat_eq (from_le_bytes w32 (take 4 (count_row id new))) k.0) refl i ∷ items_counted messages ks sized.1 have.1 i

  -- what is kept of its text
  text_by : (messages : Messages) (folder : Folder) (k : Key) → IsSized k.1 → (k.0 ≡ id → count_of map_extensions k.1 ≡ old) → (b : Bool) → nat_eq (from_le_bytes w32 (take 4 (count_row id new))) k.0 ≡ b → KeyHas messages folder k
      → KeyHas messages folder (changed_key ref_current (count_row id new) k)
  text_by messages folder (u, []) sized count b test has = absurd sized
  text_by messages folder (u, p ∷ []) sized count b test has = absurd sized
  text_by messages folder (u, p ∷ q ∷ r ∷ rest) sized count b test has = absurd sized
  text_by messages folder (u, p ∷ q ∷ []) sized count true test has =
      let same : u ≡ id = sym (eqb-true (from_le_bytes w32 (take 4 (count_row id new))) u test) ∙ here_is in
      let enough : 1 ≤ count_of map_extensions (p ∷ q ∷ []) = subst (λ (n : ℕ). 1 ≤ n) (sym (count same)) some in
      subst (λ (b : Bool). KeyHas messages folder (cond b (u, p ∷ over q ∷ []) (u, p ∷ q ∷ []))) (sym test) (λ positive message is. has enough message is)
  text_by messages folder (u, p ∷ q ∷ []) sized count false test has = subst (λ (b : Bool). KeyHas messages folder (cond b (u, p ∷ over q ∷ []) (u, p ∷ q ∷ []))) (sym test) has

  pub texts_counted : (messages : Messages) (folder : Folder) (ks : List Key) → AreSized ks → HaveCount ks → KeysHave messages folder ks → KeysHave messages folder (each (changed_key ref_current (count_row id new)) ks)
  texts_counted messages folder [] sized have has = tt {0}
  texts_counted messages folder (k ∷ ks) sized have has = (text_by messages folder k sized.0 have.0 (nat_eq (from_le_bytes w32 (take 4 (count_row id new))) k.0) refl has.0, texts_counted messages folder ks sized.1 have.1 has.1)

-- ---- the sizes of a valid map's parts

sized_parts : (parts : List (List ℕ)) → map length parts ≡ 12 ∷ 2 ∷ [] → IsSized parts
sized_parts [] is = absurd cc
sized_parts (p ∷ []) is = absurd cc
sized_parts (p ∷ q ∷ []) is = (cc, cc)
sized_parts (p ∷ q ∷ r ∷ rest) is = absurd cc

rows_sized : (m : Mailbox) → m.extensions ≡ map_extensions → (rows : List Row) → All (IsRowOf m) rows → AreSized (keys rows)
rows_sized m own [] all = tt {0}
rows_sized m own (row ∷ rows) all = (
  sized_parts row.parts ((All-head (IsRowOf m) row rows all).parts ∙ ap (λ (es : List Extension). map (λ (e : Extension). e.record_size) es) own),
  rows_sized m own rows (All-tail (IsRowOf m) row rows all),
)

pub are_sized : (m : Mailbox) → m.extensions ≡ map_extensions → IsValid m → AreSized (keys m.rows)
are_sized m own valid = rows_sized m own m.rows valid.rows

pub mapped_each : {X Y : Type 0} (f : X → Y) (xs : List X) → map f xs ≡ each f xs
mapped_each f [] = refl
mapped_each f (x ∷ xs) = ap (λ ys. f x ∷ ys) (mapped_each f xs)

-- a map with a row has the extensions
pub has_own : (m : Mailbox) → IsMap m → 1 ≤ length m.rows → m.extensions ≡ map_extensions
has_own m is some = ⊎_elim (λ own. own) (λ none. absurd (let zero_rows : length m.rows ≡ 0 = ap length none.1 in omega (arith, zero_rows, some))) is

pub counts_are : CountsAre
counts_are m after id old new is valid rows (uid, some, short) have gives change to =
    let own = has_own m is rows in
    let sized = are_sized m own valid in
    let made = count_with m id new own sized after gives in
    let counts = counts_of id old new change uid short some to m own m.rows have in
    record {
      map = inl made.extensions;
      storage = λ messages. λ i. record {
        next = made.next i;
        items = (items_by messages after made.extensions after.rows ∙ ap (each (key_item messages)) made.rows ∙ items_counted id old new change uid short some to messages (keys m.rows) sized counts
            ∙ ap (each (counted id change)) (sym (items_by messages m own m.rows)) ∙ sym (mapped_each (counted id change) (map (item_of messages m) m.rows))) i;
      };
      keeps = λ messages folder all.
          texts_from messages after folder made.extensions after.rows
          (subst (KeysHave messages folder) (sym made.rows) (texts_counted id old new change uid short some to messages folder (keys m.rows) sized counts (texts_of messages m folder own m.rows all)));
    }
