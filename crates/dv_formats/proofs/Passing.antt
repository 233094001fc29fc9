-- A text of a snapshot passes each test.
use Rattle.std.proofs.Common.{◌≡◌, ◌⊎◌, inl, inr, ℕ, zero, suc, ◌+◌, ◌-◌, ◌*◌, ◌^◌, ◌<◌, ◌≤◌, Bool, cond, List, [], ◌∷◌, ◌++◌, length, take, drop, get_or, Option, Some, None, refl, sym, ◌∙◌, ap, subst, arith, length-append, append_assoc}
use Rattle.std.specs.Prelude.{flat_map, map, replicate, slice_index, sum_by, count_by, bit_and, nat_eq, not}
use Rattle.std.specs.Int.{w32, w64, to_le_bytes, from_le_bytes}
use Rattle.std.specs.List.{AllByRecursion, range_with_len}
use Rattle.std.proofs.lemmas.List.{drop-drop, drop-take, drop_at, ext_get_or, get_or-map, length-map, take_at, take-take}
use Rattle.std.proofs.lemmas.List.FromFn.{get_or-map-range_with_len, length-map-range_with_len}
use Rattle.std.proofs.lemmas.List.Sums.{count_by-le-length, sum_by-cons, sum_by-le}
use Rattle.std.proofs.lemmas.Nat.{from_le_bytes-to_le_bytes_4, from_le_bytes-to_le_bytes_8}
use Rattle.dv_model.specs.declared.types.Current.{Current}
use Rattle.dv_model.specs.declared.types.Extension.{Extension}
use Rattle.dv_model.specs.declared.types.Mailbox.{Mailbox}
use Rattle.dv_model.specs.declared.types.Mark.{Mark}
use Rattle.dv_model.specs.declared.types.Row.{Row}
use Rattle.dv_model.specs.Mailboxes.{IsRowOf}
use Rattle.dv_model.specs.Spelling.{padded}
use Rattle.dv_formats.specs.Snapshots.{IsSnapshot, current_text, filled, highest_text, keyword_bits, keyword_word, keyword_words, row_size, row_text, rows_with, snapshot_text, tables_text}
use Rattle.dv_formats.specs.SnapshotFaults.{AreRecords, AreTables, HasFlagCounts, HasNumbers, IsCurrent, IsInOrder, IsKnown, IsRecord, flags_at, head_of, highest_at, record_at, record_place, records_with, uid_at, version_at, word_at, zeros_from}
use Rattle.dv_formats.proofs.Texts.{length_filled}
use Rattle.dv_formats.proofs.Wholes.{AreWords, Fields, are_words, each_of_all, fields_of, whole}

-- each test, as a text of this mailbox passes it
pub record Passes (m : Mailbox) (b : List ℕ) : Type 0 where
  pub long : 120 ≤ length b
  pub known : IsKnown b
  pub numbers : HasNumbers b
  pub tables : AreTables m.keywords m.extensions b
  pub size : word_at 8 b ≡ row_size (version_at b) m
  pub end : length b ≡ word_at 4 b + word_at 8 b * word_at 32 b
  pub current : IsCurrent m.extensions m.current b
  pub rows : AreRecords (head_of m.keywords m.extensions b) m.rows b
  pub counts : HasFlagCounts b
  pub order : (k : ℕ) → k < word_at 32 b → IsInOrder k b

-- any row
abbrev pub no_row : Row
no_row = record { uid = 0; flags = 0; keywords = []; parts = []; modseq = 0 }

-- ---- records of one size behind one another

pub length_records : {X : Type 0} (g : X → List ℕ) (size : ℕ) (xs : List X) → AllByRecursion (λ x. length (g x) ≡ size) xs → length (flat_map g xs) ≡ size * length xs
length_records g size [] each = omega arith
length_records g size (x ∷ xs) each = let rest = length_records g size xs each.1 in omega (arith, rest, each.0, length-append (g x) (flat_map g xs))

pub record_of : {X : Type 0} (g : X → List ℕ) (size : ℕ) (xs : List X) → AllByRecursion (λ x. length (g x) ≡ size) xs → (k : ℕ) (d : X) → k < length xs → take size (drop (size * k) (flat_map g xs)) ≡ g (get_or xs k d)
record_of g size [] each k d below = absurd (omega (arith, below))
record_of g size (x ∷ xs) each zero d below = let none : size * 0 ≡ 0 = omega arith in ap (λ n. take size (drop n (g x ++ flat_map g xs))) none ∙ take_at (g x) (flat_map g xs) size each.0
record_of g size (x ∷ xs) each (suc k) d below =
    let more : size * suc k ≡ size + size * k = omega arith in
    ap (λ n. take size (drop n (g x ++ flat_map g xs))) more ∙ ap (take size) (sym (drop-drop (size * k) size (g x ++ flat_map g xs))) ∙ ap (λ t. take size (drop (size * k) t)) (drop_at (g x) (flat_map g xs) size each.0)
    ∙ record_of g size xs each.1 k d (omega (arith, below))

-- ---- the length of a row

pub length_words : (from n : ℕ) (places : List ℕ) → length (flat_map (λ word. to_le_bytes w32 (keyword_word places word)) (range_with_len from n)) ≡ 4 * n
length_words from zero places = refl
length_words from (suc n) places = let rest = length_words (from + 1) n places in omega (arith, rest)

length_parts : (es : List Extension) (parts : List (List ℕ)) → map length parts ≡ map (λ e. e.record_size) es → length (flat_map filled parts) ≡ sum_by (λ e. padded e.record_size) es
length_parts [] [] same = refl
length_parts [] (p ∷ parts) same = absurd cc
length_parts (e ∷ es) [] same = absurd cc
length_parts (e ∷ es) (p ∷ parts) same =
    let first : length p ≡ e.record_size = cc in
    let rest = length_parts es parts (ap (drop 1) same) in
    let here : padded (length p) ≡ padded e.record_size = ap padded first in
    omega (arith, rest, here, length_filled p, length-append (filled p) (flat_map filled parts), sum_by-cons (λ (x : Extension). padded x.record_size) e es)

pub length_row : (version : ℕ) (m : Mailbox) (row : Row) → (version ≡ 1) ⊎ (version ≡ 2) → map length row.parts ≡ map (λ e. e.record_size) m.extensions → length (row_text version m row) ≡ row_size version m
length_row version m row (inl one) sizes =
    subst (λ v. length (row_text v m row) ≡ row_size v m) (sym one)
    (omega (arith, length-append (keyword_bits (length m.keywords) row.keywords) (flat_map filled row.parts), length_words 0 (keyword_words (length m.keywords)) row.keywords, length_parts m.extensions row.parts sizes))
length_row version m row (inr two) sizes =
    subst (λ v. length (row_text v m row) ≡ row_size v m) (sym two)
    (omega (arith, length-append (keyword_bits (length m.keywords) row.keywords) (flat_map filled row.parts), length_words 0 (keyword_words (length m.keywords)) row.keywords, length_parts m.extensions row.parts sizes))

-- ---- the header

module _ (v : ℕ) (f : Fields) (hi T R : List ℕ) (long : length hi ≡ 52) where
  current_there : (c : Option Current) → take 8 (drop 52 (whole v f c hi T R)) ≡ current_text c
  current_there None = refl
  current_there (Some c) = refl

  seen_there : (c : Option Current) → take 4 (drop 60 (whole v f c hi T R)) ≡ to_le_bytes w32 f.seen
  seen_there None = refl
  seen_there (Some c) = refl

  deleted_there : (c : Option Current) → take 4 (drop 64 (whole v f c hi T R)) ≡ to_le_bytes w32 f.deleted
  deleted_there None = refl
  deleted_there (Some c) = refl

  behind_numbers : (c : Option Current) → drop 68 (whole v f c hi T R) ≡ hi ++ T ++ R
  behind_numbers None = refl
  behind_numbers (Some c) = refl

  length_whole : (c : Option Current) → length (whole v f c hi T R) ≡ 68 + length (hi ++ T ++ R)
  length_whole None = omega arith
  length_whole (Some c) = omega arith

  all_of : (c : Option Current) → length (whole v f c hi T R) ≡ 120 + length T + length R
  all_of c = omega (arith, length_whole c, long, length-append (hi ++ T) R, length-append hi T)

  highest_there : (c : Option Current) → take 52 (drop 68 (whole v f c hi T R)) ≡ hi
  highest_there c = ap (take 52) (behind_numbers c ∙ append_assoc hi T R) ∙ take_at hi (T ++ R) 52 long

  behind_header : (c : Option Current) → drop 120 (whole v f c hi T R) ≡ T ++ R
  behind_header c = sym (drop-drop 52 68 (whole v f c hi T R)) ∙ ap (drop 52) (behind_numbers c ∙ append_assoc hi T R) ∙ drop_at hi (T ++ R) 52 long

  tables_there : (c : Option Current) → drop 120 (take (120 + length T) (whole v f c hi T R)) ≡ T
  tables_there c = drop-take 120 (length T) (whole v f c hi T R) ∙ ap (take (length T)) (behind_header c) ∙ take_at T R (length T) refl

  records_there : (c : Option Current) (n : ℕ) → drop (120 + length T + n) (whole v f c hi T R) ≡ drop n R
  records_there c n =
      sym (drop-drop n (120 + length T) (whole v f c hi T R)) ∙ ap (drop n) (sym (drop-drop (length T) 120 (whole v f c hi T R)) ∙ ap (drop (length T)) (behind_header c) ∙ drop_at T R (length T) refl)

length_highest : (version : ℕ) (m : Mailbox) → (version ≡ 1) ⊎ (version ≡ 2) → length (highest_text version m) ≡ 52
length_highest version m (inl one) = ap (λ v. length (highest_text v m)) one
length_highest version m (inr two) = ap (λ v. length (highest_text v m)) two

-- ---- the whole text

pub which_version : (v : ℕ) → (1 ≤ v) × (v ≤ 2) → (v ≡ 1) ⊎ (v ≡ 2)
which_version zero known = absurd (omega (arith, known.0))
which_version (suc zero) known = inl refl
which_version (suc (suc zero)) known = inr refl
which_version (suc (suc (suc v))) known = absurd (omega (arith, known.1))

pub highest_one : (b : List ℕ) → version_at b ≡ 1 → highest_at b ≡ 1
highest_one b one = ap (λ v. cond (nat_eq v 1) 1 (from_le_bytes w64 (take 8 (drop 68 b)))) one

pub highest_two : (b : List ℕ) → version_at b ≡ 2 → highest_at b ≡ from_le_bytes w64 (take 8 (drop 68 b))
highest_two b two = ap (λ v. cond (nat_eq v 1) 1 (from_le_bytes w64 (take 8 (drop 68 b)))) two

pub zeros_one : (b : List ℕ) → version_at b ≡ 1 → zeros_from b ≡ 68
zeros_one b one = ap (λ v. cond (nat_eq v 1) 68 76) one

pub zeros_two : (b : List ℕ) → version_at b ≡ 2 → zeros_from b ≡ 76
zeros_two b two = ap (λ v. cond (nat_eq v 1) 68 76) two

end_from : (b : List ℕ) (n : ℕ) → zeros_from b ≡ n → drop n (take 120 b) ≡ replicate (120 - n) 0 → drop (zeros_from b) (take 120 b) ≡ replicate (120 - zeros_from b) 0
end_from b n same is = subst (λ k. drop k (take 120 b) ≡ replicate (120 - k) 0) (sym same) is

pub count_flags : (p : ℕ → Bool) (rows : List Row) → count_by p (map (λ row. row.flags) rows) ≡ count_by (λ row. p row.flags) rows
count_flags p [] = refl
count_flags p (row ∷ rows) =
    sum_by-cons (λ flags. cond (p flags) 1 0) row.flags (map (λ (r : Row). r.flags) rows) ∙ ap (λ n. cond (p row.flags) 1 0 + n) (count_flags p rows) ∙ sym (sum_by-cons (λ (r : Row). cond (p r.flags) 1 0) row rows)

few_bytes : (v : ℕ) (m : Mailbox) → (v ≡ 1) ⊎ (v ≡ 2) → length m.keywords < 2 ^ 32 → sum_by (λ e. padded e.record_size) m.extensions ≤ 16 * 65538 → row_size v m < 2 ^ 32
few_bytes v m (inl one) names parts = subst (λ x. row_size x m < 2 ^ 32) (sym one) (omega (arith, names, parts))
few_bytes v m (inr two) names parts = subst (λ x. row_size x m < 2 ^ 32) (sym two) (omega (arith, names, parts))

module _ (v : ℕ) (m : Mailbox) (indexid : ℕ) (mark : Mark) (b : List ℕ) (is : IsSnapshot v m indexid mark b) where
  which : (v ≡ 1) ⊎ (v ≡ 2)
  which = which_version v is.known

  words : AreWords (fields_of v m indexid mark)
  words = are_words v m indexid mark b is

  hi_long : length (highest_text v m) ≡ 52
  hi_long = length_highest v m which

  version_is : version_at b ≡ v
  version_is = ap (λ t. slice_index t 1) is.text

  header_size : word_at 4 b ≡ 120 + length (tables_text m)
  header_size = ap (word_at 4) is.text ∙ from_le_bytes-to_le_bytes_4 (120 + length (tables_text m)) is.fits.tables

  parts_few : sum_by (λ e. padded e.record_size) m.extensions ≤ 16 * 65538
  parts_few =
      let some = sum_by-le (λ (e : Extension). padded e.record_size) 65538 m.extensions (λ k d below. let small = (is.fits.extensions k d below).numbers.1 in omega (arith, small)) in
      omega (arith, some, is.valid.extensions.count)

  record_size : word_at 8 b ≡ row_size v m
  record_size = ap (word_at 8) is.text ∙ from_le_bytes-to_le_bytes_4 (row_size v m) (few_bytes v m which words.counts.1 parts_few)

  row_count : word_at 32 b ≡ length m.rows
  row_count = ap (word_at 32) is.text ∙ from_le_bytes-to_le_bytes_4 (length m.rows) words.counts.0

  next_uid_is : word_at 28 b ≡ m.next_uid
  next_uid_is = ap (word_at 28) is.text ∙ from_le_bytes-to_le_bytes_4 m.next_uid words.ids.2

  indexid_is : word_at 16 b ≡ indexid
  indexid_is = ap (word_at 16) is.text ∙ from_le_bytes-to_le_bytes_4 indexid words.ids.0

  highest_bytes : take 52 (drop 68 b) ≡ highest_text v m
  highest_bytes = ap (λ t. take 52 (drop 68 t)) is.text ∙ highest_there v (fields_of v m indexid mark) (highest_text v m) (tables_text m) (flat_map (row_text v m) m.rows) hi_long m.current

  highest_is : highest_at b ≡ m.highest
  highest_is = by_version which
    where
      by_version : (v ≡ 1) ⊎ (v ≡ 2) → highest_at b ≡ m.highest
      by_version (inl one) = highest_one b (version_is ∙ one) ∙ sym (is.numbered one).0
      by_version (inr two) =
          let short : take 8 (drop 68 b) ≡ take 8 (take 52 (drop 68 b)) = sym (take-take 8 52 (drop 68 b) (omega arith)) in
          highest_two b (version_is ∙ two) ∙ ap (from_le_bytes w64) (short ∙ ap (take 8) (highest_bytes ∙ ap (λ x. highest_text x m) two)) ∙ from_le_bytes-to_le_bytes_8 m.highest (omega (arith, is.valid.highest.1))

  ends : drop (zeros_from b) (take 120 b) ≡ replicate (120 - zeros_from b) 0
  ends = by_version which
    where
      by_version : (v ≡ 1) ⊎ (v ≡ 2) → drop (zeros_from b) (take 120 b) ≡ replicate (120 - zeros_from b) 0
      by_version (inl one) = end_from b 68 (zeros_one b (version_is ∙ one)) (drop-take 68 52 b ∙ highest_bytes ∙ ap (λ x. highest_text x m) one)
      by_version (inr two) =
          end_from b 76 (zeros_two b (version_is ∙ two)) (drop-take 76 44 b ∙ ap (take 44) (sym (drop-drop 8 68 b)) ∙ sym (drop-take 8 44 (drop 68 b)) ∙ ap (drop 8) (highest_bytes ∙ ap (λ x. highest_text x m) two))

  long : length b ≡ 120 + length (tables_text m) + length (flat_map (row_text v m) m.rows)
  long = ap length is.text ∙ all_of v (fields_of v m indexid mark) (highest_text v m) (tables_text m) (flat_map (row_text v m) m.rows) hi_long m.current

  rows_long : AllByRecursion (λ row. length (row_text v m row) ≡ row_size v m) m.rows
  rows_long = each_of_all (IsRowOf m) (λ row. length (row_text v m row) ≡ row_size v m) (λ row h. length_row v m row which h.parts) m.rows is.valid.rows

  record_text : (k : ℕ) (d : Row) → k < length m.rows → record_at k b ≡ row_text v m (get_or m.rows k d)
  record_text k d below =
      ap (λ t. take (word_at 8 b) (drop (record_place k b) t)) is.text
      ∙ ap (λ n. take (word_at 8 b) (drop (n + word_at 8 b * k) (snapshot_text v m indexid mark))) header_size
      ∙ ap (λ n. take n (drop (120 + length (tables_text m) + n * k) (snapshot_text v m indexid mark))) record_size
      ∙ ap (take (row_size v m)) (records_there v (fields_of v m indexid mark) (highest_text v m) (tables_text m) (flat_map (row_text v m) m.rows) hi_long m.current (row_size v m * k))
      ∙ record_of (row_text v m) (row_size v m) m.rows rows_long k d below

  uid_is : (k : ℕ) (d : Row) → k < length m.rows → uid_at k b ≡ (get_or m.rows k d).uid
  uid_is k d below =
      let row = get_or m.rows k d in
      let small = (is.valid.rows k d below).uid.1 in
      ap (word_at 0) (record_text k d below) ∙ from_le_bytes-to_le_bytes_4 row.uid (omega (arith, small, is.valid.next_uid.1))

  flags_is : (k : ℕ) (d : Row) → k < length m.rows → flags_at k b ≡ (get_or m.rows k d).flags
  flags_is k d below = ap (λ t. slice_index t 4) (record_text k d below)

  flags_are : map (λ k. flags_at k b) (range_with_len 0 (word_at 32 b)) ≡ map (λ row. row.flags) m.rows
  flags_are =
      ext_get_or 0 (map (λ k. flags_at k b) (range_with_len 0 (word_at 32 b))) (map (λ row. row.flags) m.rows)
      (length-map-range_with_len (λ k. flags_at k b) 0 (word_at 32 b) ∙ row_count ∙ sym (length-map m.rows (λ row. row.flags)))
      (λ k below. let low : k < word_at 32 b = omega (arith, below, length-map-range_with_len (λ k. flags_at k b) 0 (word_at 32 b)) in
      get_or-map-range_with_len (λ k. flags_at k b) 0 (word_at 32 b) k k 0 low (omega arith) ∙ flags_is k no_row (omega (arith, low, row_count)) ∙ sym (get_or-map (λ (row : Row). row.flags) m.rows k no_row 0 (omega (arith, low, row_count))))

  count_is : (bit : ℕ) → records_with bit b ≡ rows_with bit m
  count_is bit = ap (count_by (λ flags. not (nat_eq (bit_and flags bit) 0))) flags_are ∙ count_flags (λ flags. not (nat_eq (bit_and flags bit) 0)) m.rows

  in_order : (k : ℕ) → k < word_at 32 b → IsInOrder k b
  in_order zero below =
      let low : 0 < length m.rows = omega (arith, below, row_count) in
      let uid = uid_is 0 no_row low in
      let row = is.valid.rows 0 no_row low in
      (omega (arith, uid, row.uid.0), omega (arith, uid, row.uid.1, next_uid_is))
  in_order (suc k) below =
      let low : suc k < length m.rows = omega (arith, below, row_count) in
      let before = uid_is k no_row (omega (arith, low)) in
      let uid = uid_is (suc k) no_row low in
      let row = is.valid.rows (suc k) no_row low in
      let step = is.valid.rising k (omega (arith, low, length-map m.rows (λ (row : Row). row.uid))) in
      let here = get_or-map (λ (row : Row). row.uid) m.rows k no_row 0 (omega (arith, low)) in
      let next = get_or-map (λ (row : Row). row.uid) m.rows (k + 1) no_row 0 (omega (arith, low)) in
      let one : k + 1 ≡ suc k = omega arith in
      let rises : (get_or m.rows k no_row).uid < (get_or m.rows (suc k) no_row).uid = subst (λ j. (get_or m.rows k no_row).uid < (get_or m.rows j no_row).uid) one (omega (arith, step, here, next)) in
      (omega (arith, uid, before, rises), omega (arith, uid, row.uid.1, next_uid_is))

  is_record : (k : ℕ) (d : Row) → k < length m.rows → IsRecord (version_at b) (head_of m.keywords m.extensions b) (get_or m.rows k d) (record_at k b)
  is_record k d below =
      let row = is.valid.rows k d below in record {
        numbers = (omega (arith, row.uid.1, is.valid.next_uid.1), is.fits.flags k d below);
        keywords = row.keywords;
        parts = row.parts;
        modseq = (row.modseq.0, omega (arith, row.modseq.1, highest_is));
        text = record_text k d below ∙ ap (λ x. row_text x m (get_or m.rows k d)) (sym version_is);
      }

  pub snapshot_passes : Passes m b
  snapshot_passes = record {
    long = omega (arith, long);
    known = record {
      version = (omega (arith, version_is, is.known.0), omega (arith, version_is, is.known.1));
      text = ap (take 4) is.text ∙ ap (λ x. 201 ∷ x ∷ 120 ∷ 0 ∷ []) (sym version_is);
    };
    numbers = record {
      zeros = (ap (word_at 12) is.text ∙ from_le_bytes-to_le_bytes_4 0 (omega arith), ap (word_at 20) is.text ∙ from_le_bytes-to_le_bytes_4 0 (omega arith));
      indexid = omega (arith, indexid_is, is.fits.named.0);
      next_uid = omega (arith, next_uid_is, is.valid.next_uid.0);
      highest = (omega (arith, highest_is, is.valid.highest.0), omega (arith, highest_is, is.valid.highest.1));
      end = ends;
    };
    tables = record {
      counted = (
        sym (ap (word_at 44) is.text ∙ from_le_bytes-to_le_bytes_4 (length m.keywords) words.counts.1),
        sym (ap (word_at 48) is.text ∙ from_le_bytes-to_le_bytes_4 (length m.extensions) words.counts.2),
      );
      valid = is.valid.names;
      extensions = is.valid.extensions;
      fields = is.fits.extensions;
      size = (omega (arith, header_size), omega (arith, header_size, long));
      text = ap (λ n. drop 120 (take n b)) header_size ∙ ap (λ t. drop 120 (take (120 + length (tables_text m)) t)) is.text
          ∙ tables_there v (fields_of v m indexid mark) (highest_text v m) (tables_text m) (flat_map (row_text v m) m.rows) hi_long m.current;
    };
    size = record_size ∙ ap (λ x. row_size x m) (sym version_is);
    end = whole_size;
    current = record {
      known = is.valid.current;
      text = ap (λ t. take 8 (drop 52 t)) is.text ∙ current_there v (fields_of v m indexid mark) (highest_text v m) (tables_text m) (flat_map (row_text v m) m.rows) hi_long m.current;
    };
    rows = record { counted = sym row_count; each = is_record };
    counts = (
      ap (λ t. from_le_bytes w32 (take 4 (drop 60 t))) is.text ∙ ap (from_le_bytes w32) (seen_there v (fields_of v m indexid mark) (highest_text v m) (tables_text m) (flat_map (row_text v m) m.rows) hi_long m.current)
          ∙ from_le_bytes-to_le_bytes_4 (rows_with 8 m) (few_with 8) ∙ sym (count_is 8),
      ap (λ t. from_le_bytes w32 (take 4 (drop 64 t))) is.text ∙ ap (from_le_bytes w32) (deleted_there v (fields_of v m indexid mark) (highest_text v m) (tables_text m) (flat_map (row_text v m) m.rows) hi_long m.current)
          ∙ from_le_bytes-to_le_bytes_4 (rows_with 4 m) (few_with 4) ∙ sym (count_is 4),
    );
    order = in_order;
  }
    where
      few_with : (bit : ℕ) → rows_with bit m < 2 ^ 32
      few_with bit = omega (arith, count_by-le-length (λ (row : Row). not (nat_eq (bit_and row.flags bit) 0)) m.rows, words.counts.0)

      whole_size : length b ≡ word_at 4 b + word_at 8 b * word_at 32 b
      whole_size =
          let rows = length_records (row_text v m) (row_size v m) m.rows rows_long in
          let product : word_at 8 b * word_at 32 b ≡ row_size v m * length m.rows = ap (λ n. n * word_at 32 b) record_size ∙ ap (λ n. row_size v m * n) row_count in
          omega (arith, long, rows, header_size, product)
