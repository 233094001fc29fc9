-- A map's rows by their ids and parts, and what records of extensions make of these.
use Rattle.std.proofs.Common.{◌≡◌, ℕ, ◌-◌, ◌≤◌, Bool, true, false, cond, List, [], ◌∷◌, ◌++◌, length, nat_eq, Some, refl, sym, ap, subst, arith}
use Rattle.std.specs.Prelude.{All, drop, map, take}
use Rattle.std.specs.Int.{w32, from_le_bytes}
use Rattle.std.specs.List.{list_any}
use Rattle.std.proofs.lemmas.List.{append-nil}
use Rattle.std.proofs.lemmas.List.Elements.{All-cons, All-head, All-nil, All-tail}
use Rattle.dv_model.specs.declared.types.Current.{Current}
use Rattle.dv_model.specs.declared.types.Mailbox.{Mailbox}
use Rattle.dv_model.specs.declared.types.Row.{Row}
use Rattle.dv_model.specs.Effects.{grown_to, is_as_before, stamped_row, with_item, with_row_parts}
use Rattle.dv_model.specs.Journals.{Held}
use Rattle.dv_shelf.specs.Folders.{Folder}
use Rattle.dv_maps.specs.Laws.{map_extensions}
use Rattle.dv_maps.specs.Maps.{count_of, place_of}
use Rattle.dv_maps.specs.Storages.{Item, item_of}
use Rattle.dv_maps.specs.Texts.{HasText, Messages, text_at}

-- ---- keys

-- what a storage knows a row by
abbrev pub Key : Type 0
Key = ℕ × List (List ℕ)

abbrev pub key : Row → Key
key row = (row.uid, row.parts)

abbrev pub keys : List Row → List Key
keys [] = []
keys (row ∷ rows) = key row ∷ keys rows

abbrev pub each : {X Y : Type 0} → (X → Y) → List X → List Y
each f [] = []
each f (x ∷ xs) = f x ∷ each f xs

pub keys_mapped : (f : Row → Row) (g : Key → Key) → ((row : Row) → key (f row) ≡ g (key row)) → (rows : List Row) → keys (map f rows) ≡ each g (keys rows)
keys_mapped f g same [] = refl
keys_mapped f g same (row ∷ rows) = λ i. same row i ∷ keys_mapped f g same rows i

pub keys_same : (f : Row → Row) → ((row : Row) → key (f row) ≡ key row) → (rows : List Row) → keys (map f rows) ≡ keys rows
keys_same f same [] = refl
keys_same f same (row ∷ rows) = λ i. same row i ∷ keys_same f same rows i

-- ---- parts of the sizes of a map

abbrev pub IsSized : List (List ℕ) → Type 0
IsSized (p ∷ q ∷ []) = (length p ≡ 12) × (length q ≡ 2)
IsSized parts = ⊥

abbrev pub AreSized : List Key → Type 0
AreSized [] = Unit {0}
AreSized (k ∷ ks) = IsSized k.1 × AreSized ks

pub keys_sized : (f : Row → Row) → ((row : Row) → IsSized row.parts → key (f row) ≡ key row) → (rows : List Row) → AreSized (keys rows) → keys (map f rows) ≡ keys rows
keys_sized f same [] sized = refl
keys_sized f same (row ∷ rows) sized = λ i. same row sized.0 i ∷ keys_sized f same rows sized.1 i

-- ---- stamps

stamped_key : (b : Bool) (n : ℕ) (row : Row) → key (cond b row (record row { modseq = n })) ≡ key row
stamped_key true n row = refl
stamped_key false n row = refl

pub stamp_keys : (before : List Row) (n : ℕ) (rows : List Row) → keys (map (stamped_row before n) rows) ≡ keys rows
stamp_keys before n rows = keys_same (stamped_row before n) (λ row. stamped_key (list_any (is_as_before row) before) n row) rows

-- ---- an introduction of a known extension

grown_same : (n : ℕ) (part : List ℕ) → length part ≡ n → grown_to n part ≡ part
grown_same n part is =
    let none : n - length part ≡ 0 = omega (arith, is) in
    rw none (append-nil part)

grown_map : (parts : List (List ℕ)) → IsSized parts → with_item 0 (grown_to 12) parts ≡ parts
grown_map [] is = absurd is
grown_map (p ∷ []) is = absurd is
grown_map (p ∷ q ∷ []) is = ap (λ (x : List ℕ). x ∷ q ∷ []) (grown_same 12 p is.0)
grown_map (p ∷ q ∷ r ∷ rest) is = absurd is

grown_ref : (parts : List (List ℕ)) → IsSized parts → with_item 1 (grown_to 2) parts ≡ parts
grown_ref [] is = absurd is
grown_ref (p ∷ []) is = absurd is
grown_ref (p ∷ q ∷ []) is = ap (λ (x : List ℕ). p ∷ x ∷ []) (grown_same 2 q is.1)
grown_ref (p ∷ q ∷ r ∷ rest) is = absurd is

pub map_grown : (rows : List Row) → AreSized (keys rows) → keys (map (with_row_parts (with_item 0 (grown_to 12))) rows) ≡ keys rows
map_grown rows sized = keys_sized (with_row_parts (with_item 0 (grown_to 12))) (λ row is. ap (λ (parts : List (List ℕ)). (row.uid, parts)) (grown_map row.parts is)) rows sized

pub ref_grown : (rows : List Row) → AreSized (keys rows) → keys (map (with_row_parts (with_item 1 (grown_to 2))) rows) ≡ keys rows
ref_grown rows sized = keys_sized (with_row_parts (with_item 1 (grown_to 2))) (λ row is. ap (λ (parts : List (List ℕ)). (row.uid, parts)) (grown_ref row.parts is)) rows sized

-- ---- an update of one row

-- the key with the first bytes of one part replaced, where it is of the update's id
abbrev pub changed_key : Current → List ℕ → Key → Key
changed_key c update k =
    cond (nat_eq (from_le_bytes w32 (take 4 update)) k.0) (k.0, with_item c.extension (λ part. take c.size (drop 4 update) ++ drop c.size part) k.1) k

changed_is : (c : Current) (update : List ℕ) (row : Row) (b : Bool)
    → key (cond b (record row { parts = with_item c.extension (λ part. take c.size (drop 4 update) ++ drop c.size part) row.parts }) row)
    ≡ cond b (row.uid, with_item c.extension (λ part. take c.size (drop 4 update) ++ drop c.size part) row.parts) (key row)
changed_is c update row true = refl
changed_is c update row false = refl

pub update_keys : (c : Current) (update : List ℕ) (rows : List Row)
    → keys (map (λ (row : Row). cond (nat_eq (from_le_bytes w32 (take 4 update)) row.uid) (record row { parts = with_item c.extension (λ part. take c.size (drop 4 update) ++ drop c.size part) row.parts }) row) rows)
    ≡ each (changed_key c update) (keys rows)
update_keys c update rows =
    keys_mapped (λ (row : Row). cond (nat_eq (from_le_bytes w32 (take 4 update)) row.uid) (record row { parts = with_item c.extension (λ part. take c.size (drop 4 update) ++ drop c.size part) row.parts }) row)
    (changed_key c update) (λ row. changed_is c update row (nat_eq (from_le_bytes w32 (take 4 update)) row.uid)) rows

-- ---- a storage and its texts by keys

abbrev pub key_item : Messages → Key → Item
key_item messages k = record { id = k.0; count = count_of map_extensions k.1; message = messages k.0 }

pub items_by : (messages : Messages) (m : Mailbox) → m.extensions ≡ map_extensions → (rows : List Row) → map (item_of messages m) rows ≡ each (key_item messages) (keys rows)
items_by messages m own [] = refl
items_by messages m own (row ∷ rows) =
    λ i. record { id = row.uid; count = count_of (own i) row.parts; message = messages row.uid } ∷ items_by messages m own rows i

abbrev pub KeyHas : Messages → Folder → Key → Type 0
KeyHas messages folder k =
    1 ≤ count_of map_extensions k.1 → (message : List ℕ) → messages k.0 ≡ Some message
    → text_at folder (place_of map_extensions k.1) ≡ Held message

abbrev pub KeysHave : Messages → Folder → List Key → Type 0
KeysHave messages folder [] = Unit {0}
KeysHave messages folder (k ∷ ks) = KeyHas messages folder k × KeysHave messages folder ks

pub texts_of : (messages : Messages) (m : Mailbox) (folder : Folder) → m.extensions ≡ map_extensions → (rows : List Row) → All (HasText messages m folder) rows → KeysHave messages folder (keys rows)
texts_of messages m folder own [] all = tt {0}
texts_of messages m folder own (row ∷ rows) all = (
  subst (λ es. 1 ≤ count_of es row.parts → (message : List ℕ) → messages row.uid ≡ Some message → text_at folder (place_of es row.parts) ≡ Held message) own (All-head (HasText messages m folder) row rows all),
  texts_of messages m folder own rows (All-tail (HasText messages m folder) row rows all),
)

pub texts_from : (messages : Messages) (m : Mailbox) (folder : Folder) → m.extensions ≡ map_extensions → (rows : List Row) → KeysHave messages folder (keys rows) → All (HasText messages m folder) rows
texts_from messages m folder own [] have = All-nil (HasText messages m folder)
texts_from messages m folder own (row ∷ rows) have =
    All-cons (HasText messages m folder) row rows
    (subst (λ es. 1 ≤ count_of es row.parts → (message : List ℕ) → messages row.uid ≡ Some message → text_at folder (place_of es row.parts) ≡ Held message) (sym own) have.0)
    (texts_from messages m folder own rows have.1)
