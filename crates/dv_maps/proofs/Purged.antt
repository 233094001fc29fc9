-- The purge of a file: what its records do to a map.
use Rattle.std.proofs.Common.{◌≡◌, ℕ, ◌+◌, ◌*◌, ◌-◌, ◌/◌, ◌^◌, ◌<◌, ◌≤◌, Bool, true, false, cond, List, [], ◌∷◌, ◌++◌, length, map, take, drop, nat_eq, Some, refl, sym, ◌∙◌, ap, subst, arith, inl, length-drop}
use Rattle.std.specs.Prelude.{All, codes, filter, sum_by}
use Rattle.std.specs.Int.{w32, from_le_bytes}
use Rattle.std.specs.List.{list_any}
use Rattle.std.specs.List.Sorted.{IsStrictlyIncreasing}
use Rattle.std.proofs.lemmas.List.Elements.{All-cons, All-head, All-nil, All-tail}
use Rattle.std.proofs.lemmas.List.Sums.{sum_by-cons}
use Rattle.std.proofs.lemmas.Nat.{from_le_bytes-to_le_bytes_4}
use Rattle.dv_model.proofs.Clients.{rising_tail}
use Rattle.dv_model.specs.declared.types.Mailbox.{Mailbox}
use Rattle.dv_model.specs.declared.types.Row.{Row}
use Rattle.dv_model.specs.Effects.{applied, is_in_pairs, stamped, with_higher, with_intro}
use Rattle.dv_model.specs.Mailboxes.{IsRowOf}
use Rattle.dv_model.specs.Sessions.{piece_size, pieces, ranges_of}
use Rattle.dv_model.specs.Spelling.{IsUid}
use Rattle.dv_maps.specs.declared.place.Place.{Place}
use Rattle.dv_maps.specs.declared.mapped.Placed.{Placed}
use Rattle.dv_maps.specs.Groups.{intro_of, place_row, purge_records}
use Rattle.dv_maps.specs.Laws.{IsPlace, map_extensions}
use Rattle.dv_maps.specs.Maps.{count_of, place_of}
use Rattle.dv_maps.specs.declared.mapped.Mapped.{Mapped}
use Rattle.dv_maps.specs.Purges.{RewritesAre, all_mapped, is_gone, is_kept, mapped, moved}
use Rattle.dv_maps.proofs.Counting.{are_sized, has_own}
use Rattle.dv_maps.proofs.Keys.{AreSized, IsSized, Key, changed_key, each, keys}
use Rattle.dv_maps.proofs.Moving.{expunge, expunges_over, moved_keys, moves_over, without}
use Rattle.dv_maps.proofs.Rewriting.{AreOver, AreRising, all_placed, lacking, made_is, placed_over}
use Rattle.dv_maps.proofs.Saving.{map_again, map_current}
use Rattle.dv_maps.proofs.Spans.{in_ranges}

-- ---- keys and rows of a map

abbrev key_mapped : Key → Mapped
key_mapped k = record { id = k.0; count = count_of map_extensions k.1; place = place_of map_extensions k.1 }

mapped_by : (m : Mailbox) → m.extensions ≡ map_extensions → (rows : List Row) → map (mapped m) rows ≡ each key_mapped (keys rows)
mapped_by m own [] = refl
mapped_by m own (row ∷ rows) = λ i. record { id = row.uid; count = count_of (own i) row.parts; place = place_of (own i) row.parts } ∷ mapped_by m own rows i

-- a place and an id whose numbers have 32 bits
record IsSmall (p : Placed) : Type 0 where
  id : p.id < 2 ^ 32
  place : IsPlace p.place

abbrev AreSmall : List Placed → Type 0
AreSmall [] = Unit {0}
AreSmall (p ∷ ps) = IsSmall p × AreSmall ps

module _ (p : Placed) (small : IsSmall p) where
  abbrev over : List ℕ → List ℕ
  over part = take 12 (drop 4 (place_row p)) ++ drop 12 part

  here_is : from_le_bytes w32 (take 4 (place_row p)) ≡ p.id
  here_is = from_le_bytes-to_le_bytes_4 p.id small.id

  place_over : (a b : List ℕ) → place_of map_extensions (over a ∷ b ∷ []) ≡ p.place
  place_over a b = λ i. record {
    file = from_le_bytes-to_le_bytes_4 p.place.file small.place.file i;
    offset = from_le_bytes-to_le_bytes_4 p.place.offset small.place.offset i;
    size = from_le_bytes-to_le_bytes_4 p.place.size small.place.size i;
  }

  key_by : (k : Key) → IsSized k.1 → (b : Bool) → nat_eq (from_le_bytes w32 (take 4 (place_row p))) k.0 ≡ b
      → (key_mapped (changed_key map_current (place_row p) k) ≡ cond b (record { id = k.0; count = count_of map_extensions k.1; place = p.place }) (key_mapped k)) × IsSized (changed_key map_current (place_row p) k).1
  key_by (u, []) sized b test = absurd sized
  key_by (u, x ∷ []) sized b test = absurd sized
  key_by (u, x ∷ y ∷ z ∷ rest) sized b test = absurd sized
  key_by (u, x ∷ y ∷ []) sized true test =
      let changed_by = λ (b : Bool). cond {A = Key} b (u, over x ∷ y ∷ []) (u, x ∷ y ∷ []) in (
        ap (λ (b : Bool). key_mapped (cond b (u, over x ∷ y ∷ []) (u, x ∷ y ∷ []))) test ∙ ap (λ (q : Place). record { id = u; count = count_of map_extensions (x ∷ y ∷ []); place = q }) (place_over x y),
        subst (λ (b : Bool). IsSized (changed_by b).1) (sym test) (let none = length-drop 12 x in let twelve = sized.0 in omega (arith, none, twelve), sized.1),
      )
  key_by (u, x ∷ y ∷ []) sized false test =
      let changed_by = λ (b : Bool). cond {A = Key} b (u, over x ∷ y ∷ []) (u, x ∷ y ∷ []) in (
        ap (λ (b : Bool). key_mapped (cond b (u, over x ∷ y ∷ []) (u, x ∷ y ∷ []))) test,
        subst (λ (b : Bool). IsSized (changed_by b).1) (sym test) sized,
      )

  keys_placed : (ks : List Key) → AreSized ks → (each key_mapped (each (changed_key map_current (place_row p)) ks) ≡ each (placed_over p) (each key_mapped ks)) × AreSized (each (changed_key map_current (place_row p)) ks)
  keys_placed [] sized = (refl, tt {0})
  keys_placed (k ∷ ks) sized =
      let one = key_by k sized.0 (nat_eq (from_le_bytes w32 (take 4 (place_row p))) k.0) refl in
      let more = keys_placed ks sized.1 in
      let same : key_mapped (changed_key map_current (place_row p) k) ≡ placed_over p (key_mapped k) =
      one.0 ∙ ap (λ (n : ℕ). cond (nat_eq n k.0) (record { id = k.0; count = count_of map_extensions k.1; place = p.place }) (key_mapped k)) here_is in
      (λ i. same i ∷ more.0 i, (one.1, more.1))

all_keys_placed : (ps : List Placed) → AreSmall ps → (ks : List Key) → AreSized ks → each key_mapped (moved_keys ps ks) ≡ all_placed ps (each key_mapped ks)
all_keys_placed [] small ks sized = refl
all_keys_placed (p ∷ ps) small ks sized =
    let one = keys_placed p small.0 ks sized in
    all_keys_placed ps small.1 (each (changed_key map_current (place_row p)) ks) one.1 ∙ ap (all_placed ps) one.0

keys_lacking : (test : ℕ → Bool) (ks : List Key) → each key_mapped (without test ks) ≡ lacking test (each key_mapped ks)
keys_lacking test [] = refl
keys_lacking test (k ∷ ks) = by_test (keys_lacking test ks) (test k.0)
  where
    by_test : each key_mapped (without test ks) ≡ lacking test (each key_mapped ks) → (b : Bool) → each key_mapped (cond b (without test ks) (k ∷ without test ks)) ≡ cond b (lacking test (each key_mapped ks)) (key_mapped k ∷ lacking test (each key_mapped ks))
    by_test rest true = rest
    by_test rest false = ap (λ (l : List Mapped). key_mapped k ∷ l) rest

-- ---- the numbers

abbrev HaveIds : List Mapped → Type 0
HaveIds [] = Unit {0}
HaveIds (r ∷ rs) = IsUid r.id × HaveIds rs

pub ids_kept : (p : Mapped → Bool) (rs : List Mapped) → HaveIds rs → HaveIds (filter p rs)
ids_kept p [] have = tt {0}
ids_kept p (r ∷ rs) have = by_test (ids_kept p rs have.1) (p r)
  where
    by_test : HaveIds (filter p rs) → (b : Bool) → HaveIds (cond b (r ∷ filter p rs) (filter p rs))
    by_test rest true = (have.0, rest)
    by_test rest false = rest

pub all_uids : (rs : List Mapped) → HaveIds rs → All IsUid (map (λ (r : Mapped). r.id) rs)
all_uids [] have = All-nil IsUid
all_uids (r ∷ rs) have = All-cons IsUid r.id (map (λ (r : Mapped). r.id) rs) have.0 (all_uids rs have.1)

moved_small : (new at : ℕ) (rs : List Mapped) → new < 2 ^ 32 → at + sum_by (λ (r : Mapped). r.place.size) rs < 2 ^ 32 → HaveIds rs → AreSmall (moved new at rs)
moved_small new at [] low short have = tt {0}
moved_small new at (r ∷ rs) low short have =
    let sum = sum_by-cons (λ (r : Mapped). r.place.size) r rs in (
      record { id = let uid = have.0.1 in omega (arith, uid); place = record { file = low; offset = omega (arith, short, sum); size = omega (arith, short, sum) } },
      moved_small new (at + r.place.size) rs low (omega (arith, short, sum)) have.1,
    )

pub have_ids : (m : Mailbox) → m.next_uid < 2 ^ 32 → (rows : List Row) → All (IsRowOf m) rows → HaveIds (map (mapped m) rows)
have_ids m low [] all = tt {0}
have_ids m low (row ∷ rows) all =
    let uid = (All-head (IsRowOf m) row rows all).uid in ((uid.0, let less = uid.1 in omega (arith, less, low)), have_ids m low rows (All-tail (IsRowOf m) row rows all))

over_more : (m : Mailbox) (n k : ℕ) → n < k → (rows : List Row) → AreOver k (map (mapped m) rows) → AreOver n (map (mapped m) rows)
over_more m n k less [] over = tt {0}
over_more m n k less (row ∷ rows) over = (let more = over.0 in omega (arith, less, more), over_more m n k less rows over.1)

rise_over : (m : Mailbox) (n : ℕ) (rows : List Row) → IsStrictlyIncreasing (n ∷ map (λ (row : Row). row.uid) rows) → AreOver n (map (mapped m) rows)
rise_over m n [] rising = tt {0}
rise_over m n (row ∷ rows) rising =
    let less : n < row.uid = rising 0 (omega arith) in (less, over_more m n row.uid less rows (rise_over m row.uid rows (rising_tail n (row.uid ∷ map (λ (r : Row). r.uid) rows) rising)))

pub all_rise : (m : Mailbox) (rows : List Row) → IsStrictlyIncreasing (map (λ (row : Row). row.uid) rows) → AreRising (map (mapped m) rows)
all_rise m [] rising = tt {0}
all_rise m (row ∷ rows) rising = (rise_over m row.uid rows rising, all_rise m rows (rising_tail row.uid (map (λ (r : Row). r.uid) rows) rising))

-- ---- the records

-- a list has no more items than its pieces have room for
piece_room : (n : ℕ) → n ≤ ((n + (piece_size - 1)) / piece_size) * piece_size
piece_room n = omega arith

record IsPurgedBy (m after : Mailbox) (ps : List Placed) (gone : List ℕ) : Type 0 where
  next : after.next_uid ≡ m.next_uid
  extensions : after.extensions ≡ map_extensions
  rows : keys after.rows ≡ without (is_in_pairs (ranges_of gone)) (moved_keys ps (keys m.rows))

module _ (m after : Mailbox) (own : m.extensions ≡ map_extensions) (sized : AreSized (keys m.rows)) (gone : List ℕ) where
  abbrev pairs_length : ℕ
  pairs_length = length (ranges_of gone)

  purged_by : (ps : List Placed) → applied m (purge_records ps gone) ≡ Some after → IsPurgedBy m after ps gone
  purged_by [] gives =
      let last = expunges_over ((pairs_length + (piece_size - 1)) / piece_size) (ranges_of gone) (piece_room pairs_length) m after gives in
      record { next = last.next; extensions = last.extensions ∙ own; rows = last.rows }
  purged_by (p ∷ ps) gives =
      let one : Mailbox = stamped m.rows (with_intro (with_higher m) (intro_of (codes "map") 12 4)) in
      let is = map_again m own sized in
      let all : ℕ = length (p ∷ ps) in
      let more = moves_over ((all + (piece_size - 1)) / piece_size) (p ∷ ps) (piece_room all) one is.current (map expunge (pieces (ranges_of gone))) after gives in
      let last = expunges_over ((pairs_length + (piece_size - 1)) / piece_size) (ranges_of gone) (piece_room pairs_length) more.behind after more.gives in
      record {
        next = last.next ∙ more.is.next ∙ is.next;
        extensions = last.extensions ∙ more.is.extensions ∙ is.extensions;
        rows = last.rows ∙ ap (without (is_in_pairs (ranges_of gone))) (more.is.rows ∙ ap (moved_keys (p ∷ ps)) is.rows);
      }

pub rewrites_are : RewritesAre
rewrites_are m after file new map_is valid some low short gives =
    let own = has_own m map_is some in
    let sized = are_sized m own valid in
    let rs = all_mapped m in
    let gone : List ℕ = map (λ (r : Mapped). r.id) (filter (is_gone file) rs) in
    let ps : List Placed = moved new 0 (filter (is_kept file) rs) in
    let is = purged_by m after own sized gone ps gives in
    let have = have_ids m valid.next_uid.1 m.rows valid.rows in
    let small = moved_small new 0 (filter (is_kept file) rs) low (omega (arith, short)) (ids_kept (is_kept file) rs have) in
    let uids = all_uids (filter (is_gone file) rs) (ids_kept (is_gone file) rs have) in
    let tests : is_in_pairs (ranges_of gone) ≡ (λ (u : ℕ). list_any (nat_eq u) gone) = λ i u. in_ranges gone uids u i in
    record {
      map = inl is.extensions;
      next = is.next;
      rows = mapped_by after is.extensions after.rows ∙ ap (each key_mapped) is.rows ∙ keys_lacking (is_in_pairs (ranges_of gone)) (moved_keys ps (keys m.rows))
          ∙ (λ i. lacking (tests i) (all_keys_placed ps small (keys m.rows) sized i)) ∙ ap (λ (l : List Mapped). lacking (λ (u : ℕ). list_any (nat_eq u) gone) (all_placed ps l)) (sym (mapped_by m own m.rows))
          ∙ made_is file new rs (all_rise m m.rows valid.rising) 0;
    }
