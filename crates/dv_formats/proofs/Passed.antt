-- A text that passes each test is of a snapshot.
use Rattle.std.proofs.Common.{◌≡◌, ◌⊎◌, inl, inr, ℕ, suc, ◌+◌, ◌-◌, ◌*◌, ◌^◌, ◌<◌, ◌≤◌, List, [], ◌∷◌, ◌++◌, length, take, drop, get_or, All, refl, sym, ◌∙◌, ap, subst, arith}
use Rattle.std.specs.Prelude.{flat_map, map, replicate, bit_and, count_by, nat_eq, not}
use Rattle.std.specs.Int.{w32, w64, to_le_bytes, from_le_bytes}
use Rattle.std.specs.List.{range_with_len}
use Rattle.std.specs.List.Sorted.{IsStrictlyIncreasing}
use Rattle.std.proofs.lemmas.Bool.{cases_lt}
use Rattle.std.proofs.lemmas.List.{drop-drop, drop-take, ext_get_or, get_or-drop, get_or-map, get_or-take, get_or-append-add, get_or_append_left, get_or_default, get_or_past, length-drop, length-map, length-take, take-append-drop, take-take}
use Rattle.std.proofs.lemmas.List.Elements.{All-cons}
use Rattle.std.proofs.lemmas.List.FromFn.{get_or-map-range_with_len, length-map-range_with_len}
use Rattle.std.proofs.lemmas.Nat.{from_le_bytes-to_le_bytes_4, le_bytes_4, le_bytes_8}
use Rattle.dv_model.specs.declared.types.Mailbox.{Mailbox}
use Rattle.dv_model.specs.declared.types.Row.{Row}
use Rattle.dv_model.specs.Mailboxes.{IsRowOf, IsValid}
use Rattle.dv_model.specs.Spelling.{padding}
use Rattle.dv_formats.specs.Snapshots.{AreBytes, IsSnapshot, current_text, filled, header_text, highest_text, keyword_bits, modseq_text, row_size, row_text, rows_with, snapshot_text, tables_text}
use Rattle.dv_formats.specs.SnapshotFaults.{AreRecords, flags_at, head_of, highest_at, mark_at, record_place, records_with, uid_at, uid_before, version_at, word_at}
use Rattle.dv_formats.proofs.Passing.{Passes, count_flags, highest_one, highest_two, no_row, which_version, zeros_one, zeros_two}

-- each is a byte
abbrev pub IsBytes : List ℕ → Type 0
IsBytes b = (i : ℕ) → get_or b i 0 < 256

pub take_bytes : (n : ℕ) (b : List ℕ) → IsBytes b → IsBytes (take n b)
take_bytes n b fits i =
    elim (cases_lt i n) [
      | inl less ↦ let same = get_or-take n b i 0 less in let small = fits i in omega (arith, same, small)
      | inr past ↦ let none = get_or_past (take n b) i 0 (omega (arith, past, length-take n b)) in omega (arith, none)
    ]

pub drop_bytes : (n : ℕ) (b : List ℕ) → IsBytes b → IsBytes (drop n b)
drop_bytes n b fits i = let same = get_or-drop n b i 0 in let small = fits (n + i) in omega (arith, same, small)

pub part_bytes : (at n : ℕ) (b : List ℕ) → IsBytes b → IsBytes (take n (drop at b))
part_bytes at n b fits = take_bytes n (drop at b) (drop_bytes at b fits)

pub small_word : (w : List ℕ) → IsBytes w → from_le_bytes w32 w < 2 ^ 32
small_word w fits = let a = fits 0 in let b = fits 1 in let c = fits 2 in let d = fits 3 in omega (arith, a, b, c, d)

pub word_small : (at : ℕ) (b : List ℕ) → IsBytes b → word_at at b < 2 ^ 32
word_small at b fits = small_word (take 4 (drop at b)) (part_bytes at 4 b fits)

pub word_there : (at x : ℕ) (b : List ℕ) → IsBytes b → at + 4 ≤ length b → x ≡ word_at at b → take 4 (drop at b) ≡ to_le_bytes w32 x
word_there at x b fits long same = sym (le_bytes_4 (take 4 (drop at b)) x (omega (arith, long, length-take 4 (drop at b), length-drop at b)) (part_bytes at 4 b fits) same)

-- a front grows by a piece
pub grow : (n m : ℕ) (b x piece : List ℕ) → take n b ≡ x → take m (drop n b) ≡ piece → take (n + m) b ≡ x ++ piece
grow n m b x piece e h =
    sym (take-append-drop n (take (n + m) b)) ∙ ap (λ t. t ++ drop n (take (n + m) b)) (take-take n (n + m) b (omega arith) ∙ e) ∙ ap (λ t. x ++ t) (drop-take n m b ∙ h)

-- records of one size are all of a text
joined : {X : Type 0} (g : X → List ℕ) (size : ℕ) (d : X) (xs : List X) (t : List ℕ) → length t ≡ size * length xs → ((k : ℕ) → k < length xs → take size (drop (size * k) t) ≡ g (get_or xs k d)) → t ≡ flat_map g xs
joined g size d [] [] long each = refl
joined g size d [] (b ∷ t) long each = absurd (omega (arith, long))
joined g size d (x ∷ xs) t long each =
    let none : size * 0 ≡ 0 = omega arith in
    let first : take size t ≡ g x = ap (λ n. take size (drop n t)) (sym none) ∙ each 0 (omega arith) in
    let product : size * suc (length xs) ≡ size + size * length xs = omega arith in
    let rest = joined g size d xs (drop size t) (omega (arith, long, product, length-drop size t))
    (λ k below. let more : size + size * k ≡ size * suc k = omega arith in
    ap (take size) (drop-drop (size * k) size t ∙ ap (λ n. drop n t) more) ∙ each (suc k) (omega (arith, below))) in
    sym (take-append-drop size t) ∙ ap (λ u. u ++ drop size t) first ∙ ap (λ u. g x ++ u) rest

-- the parts of a row are bytes
pub front_bytes : (a c : List ℕ) → IsBytes (a ++ c) → IsBytes a
front_bytes a c fits i =
    elim (cases_lt i (length a)) [
      | inl less ↦ let same = get_or_append_left a c 0 i less in let small = fits i in omega (arith, same, small)
      | inr past ↦ let none = get_or_past a i 0 past in omega (arith, none)
    ]

pub back_bytes : (a c : List ℕ) → IsBytes (a ++ c) → IsBytes c
back_bytes a c fits i = let same = get_or-append-add a c i 0 in let small = fits (length a + i) in omega (arith, same, small)

pub each_bytes : (c : List ℕ) → IsBytes c → AreBytes c
each_bytes c fits k d below = let same = get_or_default c k d 0 below in let small = fits k in omega (arith, same, small)

filled_parts : (parts : List (List ℕ)) → IsBytes (flat_map filled parts) → All AreBytes parts
filled_parts [] fits = λ k d below. absurd (omega (arith, below))
filled_parts (part ∷ parts) fits =
    All-cons AreBytes part parts (each_bytes part (front_bytes part (replicate (padding (length part)) 0) (front_bytes (filled part) (flat_map filled parts) fits)))
    (filled_parts parts (back_bytes (filled part) (flat_map filled parts) fits))

parts_of : (front : List ℕ) (parts : List (List ℕ)) → IsBytes (front ++ flat_map filled parts) → All AreBytes parts
parts_of front parts fits = filled_parts parts (back_bytes front (flat_map filled parts) fits)

-- the records that have a flag are as many as their rows
flags_of : (m : Mailbox) (rows : List Row) (b : List ℕ) → AreRecords m rows b → map (λ k. flags_at k b) (range_with_len 0 (word_at 32 b)) ≡ map (λ row. row.flags) rows
flags_of m rows b are =
    ext_get_or 0 (map (λ k. flags_at k b) (range_with_len 0 (word_at 32 b))) (map (λ row. row.flags) rows)
    (length-map-range_with_len (λ k. flags_at k b) 0 (word_at 32 b) ∙ sym are.counted ∙ sym (length-map rows (λ row. row.flags)))
    (λ k below. let low : k < word_at 32 b = omega (arith, below, length-map-range_with_len (λ k. flags_at k b) 0 (word_at 32 b)) in
    let small : k < length rows = omega (arith, low, are.counted) in
    get_or-map-range_with_len (λ k. flags_at k b) 0 (word_at 32 b) k k 0 low (omega arith) ∙ ap (λ t. get_or t 4 0) (are.each k no_row small).text ∙ sym (get_or-map (λ (row : Row). row.flags) rows k no_row 0 small))

pub count_of : (m : Mailbox) (rows : List Row) (b : List ℕ) → AreRecords m rows b → (bit : ℕ) → records_with bit b ≡ count_by (λ row. not (nat_eq (bit_and row.flags bit) 0)) rows
count_of m rows b are bit = ap (λ fs. count_by (λ flags. not (nat_eq (bit_and flags bit) 0)) fs) (flags_of m rows b are) ∙ count_flags (λ flags. not (nat_eq (bit_and flags bit) 0)) rows

-- the mailbox has the header's numbers
pub record HasNumbersOf (m : Mailbox) (b : List ℕ) : Type 0 where
  pub validity : m.uid_validity ≡ word_at 24 b
  pub next_uid : m.next_uid ≡ word_at 28 b
  pub highest : m.highest ≡ highest_at b

module _ (m : Mailbox) (b : List ℕ) (fits : IsBytes b) (numbers : HasNumbersOf m b) (is : Passes m b) where
  which : (version_at b ≡ 1) ⊎ (version_at b ≡ 2)
  which = which_version (version_at b) is.known.version

  there : (at x : ℕ) → at + 4 ≤ 120 → x ≡ word_at at b → take 4 (drop at b) ≡ to_le_bytes w32 x
  there at x low same = word_there at x b fits (omega (arith, low, is.long)) same

  header_size : word_at 4 b ≡ 120 + length (tables_text m)
  header_size = omega (arith, ap length is.tables.text, length-drop 120 (take (word_at 4 b) b), length-take (word_at 4 b) b, is.tables.size.0, is.tables.size.1)

  end_there : take 52 (drop 68 b) ≡ highest_text (version_at b) m
  end_there = by_version which
    where
      by_version : (version_at b ≡ 1) ⊎ (version_at b ≡ 2) → take 52 (drop 68 b) ≡ highest_text (version_at b) m
      by_version (inl one) =
          let zeros : drop 68 (take 120 b) ≡ replicate 52 0 = subst (λ n. drop n (take 120 b) ≡ replicate (120 - n) 0) (zeros_one b one) is.numbers.end in
          sym (drop-take 68 52 b) ∙ zeros ∙ ap (λ v. highest_text v m) (sym one)
      by_version (inr two) =
          let zeros : drop 76 (take 120 b) ≡ replicate 44 0 = subst (λ n. drop n (take 120 b) ≡ replicate (120 - n) 0) (zeros_two b two) is.numbers.end in
          let behind : take 44 (drop 8 (drop 68 b)) ≡ replicate 44 0 = ap (take 44) (drop-drop 8 68 b) ∙ sym (drop-take 76 44 b) ∙ zeros in
          let high = le_bytes_8 (take 8 (drop 68 b)) m.highest (omega (arith, is.long, length-take 8 (drop 68 b), length-drop 68 b)) (part_bytes 68 8 b fits) (numbers.highest ∙ highest_two b two) in
          grow 8 44 (drop 68 b) (to_le_bytes w64 m.highest) (replicate 44 0) (sym high) behind ∙ ap (λ v. highest_text v m) (sym two)

  row_size_is : row_size (version_at b) m ≡ word_at 8 b
  row_size_is = sym is.size

  count_is : (bit : ℕ) → records_with bit b ≡ rows_with bit m
  count_is bit = count_of (head_of m.keywords m.extensions b) m.rows b is.rows bit

  header_there : take 120 b ≡ header_text (version_at b) m (word_at 16 b) (mark_at b)
  header_there =
      let at4 = grow 4 4 b _ (to_le_bytes w32 (120 + length (tables_text m))) is.known.text (there 4 (120 + length (tables_text m)) (omega arith) (sym header_size)) in
      let at8 = grow 8 4 b _ (to_le_bytes w32 (row_size (version_at b) m)) at4 (there 8 (row_size (version_at b) m) (omega arith) row_size_is) in
      let at12 = grow 12 4 b _ (to_le_bytes w32 0) at8 (there 12 0 (omega arith) (sym is.numbers.zeros.0)) in
      let at16 = grow 16 4 b _ (to_le_bytes w32 (word_at 16 b)) at12 (there 16 (word_at 16 b) (omega arith) refl) in
      let at20 = grow 20 4 b _ (to_le_bytes w32 0) at16 (there 20 0 (omega arith) (sym is.numbers.zeros.1)) in
      let at24 = grow 24 4 b _ (to_le_bytes w32 m.uid_validity) at20 (there 24 m.uid_validity (omega arith) numbers.validity) in
      let at28 = grow 28 4 b _ (to_le_bytes w32 m.next_uid) at24 (there 28 m.next_uid (omega arith) numbers.next_uid) in
      let at32 = grow 32 4 b _ (to_le_bytes w32 (length m.rows)) at28 (there 32 (length m.rows) (omega arith) is.rows.counted) in
      let at36 = grow 36 4 b _ (to_le_bytes w32 (word_at 36 b)) at32 (there 36 (word_at 36 b) (omega arith) refl) in
      let at40 = grow 40 4 b _ (to_le_bytes w32 (word_at 40 b)) at36 (there 40 (word_at 40 b) (omega arith) refl) in
      let at44 = grow 44 4 b _ (to_le_bytes w32 (length m.keywords)) at40 (there 44 (length m.keywords) (omega arith) is.tables.counted.0) in
      let at48 = grow 48 4 b _ (to_le_bytes w32 (length m.extensions)) at44 (there 48 (length m.extensions) (omega arith) is.tables.counted.1) in
      let at52 = grow 52 8 b _ (current_text m.current) at48 is.current.text in
      let at60 = grow 60 4 b _ (to_le_bytes w32 (rows_with 8 m)) at52 (there 60 (rows_with 8 m) (omega arith) (sym (count_is 8) ∙ sym is.counts.0)) in
      let at64 = grow 64 4 b _ (to_le_bytes w32 (rows_with 4 m)) at60 (there 64 (rows_with 4 m) (omega arith) (sym (count_is 4) ∙ sym is.counts.1)) in
      grow 68 52 b _ (highest_text (version_at b) m) at64 end_there

  records_there : drop (word_at 4 b) b ≡ flat_map (row_text (version_at b) m) m.rows
  records_there =
      let product : word_at 8 b * word_at 32 b ≡ word_at 8 b * length m.rows = ap (λ n. word_at 8 b * n) (sym is.rows.counted) in
      joined (row_text (version_at b) m) (word_at 8 b) no_row m.rows (drop (word_at 4 b) b) (omega (arith, is.end, product, length-drop (word_at 4 b) b))
      (λ k below. ap (take (word_at 8 b)) (drop-drop (word_at 8 b * k) (word_at 4 b) b) ∙ (is.rows.each k no_row below).text)

  text_there : b ≡ snapshot_text (version_at b) m (word_at 16 b) (mark_at b)
  text_there =
      let front : take (word_at 4 b) b ≡ header_text (version_at b) m (word_at 16 b) (mark_at b) ++ tables_text m =
      sym (take-append-drop 120 (take (word_at 4 b) b)) ∙ ap (λ t. t ++ drop 120 (take (word_at 4 b) b)) (take-take 120 (word_at 4 b) b is.tables.size.0 ∙ header_there)
      ∙ ap (λ t. header_text (version_at b) m (word_at 16 b) (mark_at b) ++ t) is.tables.text in
      sym (take-append-drop (word_at 4 b) b) ∙ ap (λ t. t ++ drop (word_at 4 b) b) front ∙ ap (λ t. header_text (version_at b) m (word_at 16 b) (mark_at b) ++ tables_text m ++ t) records_there

  uid_is : (k : ℕ) → k < length m.rows → uid_at k b ≡ (get_or m.rows k no_row).uid
  uid_is k below = let here = is.rows.each k no_row below in ap (word_at 0) here.text ∙ from_le_bytes-to_le_bytes_4 (get_or m.rows k no_row).uid here.numbers.0

  above_before : (k : ℕ) → uid_before k b < uid_at k b → 1 ≤ uid_at k b
  above_before k less = omega (arith, less)

  rising : IsStrictlyIncreasing (map (λ row. row.uid) m.rows)
  rising k below =
      let low : k + 1 < length m.rows = omega (arith, below, length-map m.rows (λ (row : Row). row.uid)) in
      let here = get_or-map (λ (row : Row). row.uid) m.rows k no_row 0 (omega (arith, low)) in
      let next = get_or-map (λ (row : Row). row.uid) m.rows (k + 1) no_row 0 low in
      let one : k + 1 ≡ suc k = omega arith in
      let step = (is.order (suc k) (omega (arith, low, is.rows.counted))).0 in
      let uid = uid_is k (omega (arith, low)) in
      let after : uid_at (suc k) b ≡ (get_or m.rows (k + 1) no_row).uid = ap (λ j. uid_at j b) (sym one) ∙ uid_is (k + 1) low in
      omega (arith, here, next, step, uid, after)

  row_is : (k : ℕ) (d : Row) → k < length m.rows → IsRowOf m (get_or m.rows k d)
  row_is k d below =
      let here = is.rows.each k d below in
      let order = is.order k (omega (arith, below, is.rows.counted)) in
      let uid : uid_at k b ≡ (get_or m.rows k d).uid = ap (word_at 0) here.text ∙ from_le_bytes-to_le_bytes_4 (get_or m.rows k d).uid here.numbers.0 in
      record {
        uid = (omega (arith, above_before k order.0, uid), omega (arith, order.1, uid, numbers.next_uid));
        keywords = here.keywords;
        parts = here.parts;
        modseq = (here.modseq.0, omega (arith, here.modseq.1, numbers.highest));
      }

  is_valid : IsValid m
  is_valid = record {
    next_uid = (omega (arith, numbers.next_uid, is.numbers.next_uid), omega (arith, numbers.next_uid, word_small 28 b fits));
    rising = rising;
    rows = row_is;
    names = is.tables.valid;
    extensions = is.tables.extensions;
    current = is.current.known;
    highest = (omega (arith, numbers.highest, is.numbers.highest.0), omega (arith, numbers.highest, is.numbers.highest.1));
  }

  parts_fit : (k : ℕ) (d : Row) → k < length m.rows → All AreBytes (get_or m.rows k d).parts
  parts_fit k d below =
      let row = get_or m.rows k d in
      let text = (is.rows.each k d below).text in
      parts_of (to_le_bytes w32 row.uid ++ row.flags ∷ 0 ∷ 0 ∷ 0 ∷ modseq_text (version_at b) row ++ keyword_bits (length m.keywords) row.keywords) row.parts
      (subst IsBytes text (part_bytes (record_place k b) (word_at 8 b) b fits))

  pub passed_is_snapshot : IsSnapshot (version_at b) m (word_at 16 b) (mark_at b) b
  passed_is_snapshot = record {
    known = is.known.version;
    valid = is_valid;
    fits = record {
      validity = omega (arith, numbers.validity, word_small 24 b fits);
      flags = λ k d below. (is.rows.each k d below).numbers.1;
      parts = parts_fit;
      extensions = is.tables.fields;
      named = (is.numbers.indexid, word_small 16 b fits);
      place = (word_small 36 b fits, word_small 40 b fits);
      tables = omega (arith, header_size, word_small 4 b fits);
    };
    numbered = λ one. (numbers.highest ∙ highest_one b one, λ k d below. let here = (is.rows.each k d below).modseq in omega (arith, here.0, here.1, highest_one b one));
    text = text_there;
  }
