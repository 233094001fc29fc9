-- Rows by rising UID: how many there can be, and that they rise behind each change.
use Rattle.std.proofs.Common.{◌≡◌, ◌≢◌, ◌⊎◌, inl, inr, ℕ, zero, suc, ◌+◌, ◌-◌, ◌^◌, ◌<◌, ◌≤◌, Bool, false, cond, eqb, ltb, List, [], ◌∷◌, ◌++◌, length, get_or, refl, sym, ◌∙◌, ap, subst, arith}
use Rattle.std.specs.Prelude.{All, IsTrue, map, filter, position, slice_get, sum, not, Some, None, nat_eq, bit_and}
use Rattle.std.specs.List.{position_or_len}
use Rattle.std.specs.List.Sorted.{IsPartitionedBy, IsStrictlyIncreasing}
use Rattle.std.proofs.lemmas.Bool.{cases_lt, cond-true, cond-false, eq-eqb, le-ltb, lt-ltb, ltb-true, ltb-false, ne_eqb}
use Rattle.std.proofs.lemmas.List.{get_or-map, length-map, map_push}
use Rattle.std.proofs.lemmas.Option.{slice_get-get_or, slice_get_within}
use Rattle.std.proofs.lemmas.List.Elements.{All-filter, All-map, All-push, All-weaker}
use Rattle.std.proofs.lemmas.List.Kept.{AllPairs-from_increasing, IsStrictlyIncreasing-filter}
use Rattle.std.proofs.lemmas.List.Sorted.{IsPartitionedBy-ltb}
use Rattle.std.proofs.lemmas.List.Sums.{position_or_len_is, sum-map}
use Rattle.dv_model.specs.declared.types.Row.{Row}
use Rattle.dv_validity.proofs.Rows.{map_filter, map_map, map_same, rising_mapped, rising_push}
use Rattle.dv_rows.specs.Kept.{AreCounted, AreRows, flag_count}
use Rattle.dv_rows.specs.Noted.{IsTally, note_count}
use Rattle.dv_rows.specs.Places.{IsPlace}
use Rattle.dv_rows.specs.declared.counts.Counts.{Counts}

-- ---- how many

reaches : (xs : List ℕ) → IsStrictlyIncreasing xs → (k : ℕ) → k < length xs → k ≤ get_or xs k 0
reaches xs up zero h = omega arith
reaches xs up (suc k) h =
    let low : k ≤ get_or xs k 0 = reaches xs up k (omega arith) in
    let next : get_or xs k 0 < get_or xs (k + 1) 0 = up k (omega arith) in
    let same : k + 1 ≡ suc k = omega arith in
    subst (λ j. j ≤ get_or xs j 0) same (omega arith)

few_numbers_by : (b : ℕ) (xs : List ℕ) → IsStrictlyIncreasing xs → All (λ x. x < b) xs → (n : ℕ) → length xs ≡ n → n ≤ b
few_numbers_by b xs up below zero e = omega arith
few_numbers_by b xs up below (suc k) e =
    let last : k ≤ get_or xs k 0 = reaches xs up k (omega arith) in
    let small : get_or xs k 0 < b = below k 0 (omega arith) in
    omega arith

pub few : (rows : List Row) → AreRows rows → length rows < 2 ^ 32
few rows are =
    let many : length (map (λ (row : Row). row.uid) rows) ≡ length rows = length-map rows (λ (row : Row). row.uid) in
    let at_most : length (map (λ (row : Row). row.uid) rows) ≤ 2 ^ 32 - 1 =
    few_numbers_by (2 ^ 32 - 1) (map (λ (row : Row). row.uid) rows) are.rising (All-map (λ x. x < 2 ^ 32 - 1) (λ (row : Row). row.uid) rows are.below) (length (map (λ (row : Row). row.uid) rows)) refl in
    omega arith

-- ---- they stay rows

pub mapped_rows : (f : Row → Row) → ((row : Row) → (f row).uid ≡ row.uid) → (rows : List Row) → AreRows rows → AreRows (map f rows)
mapped_rows f same rows are = record {
  rising = rising_mapped f same rows are.rising;
  below = All-map (λ row. row.uid < 2 ^ 32 - 1) f rows (All-weaker (λ row. row.uid < 2 ^ 32 - 1) (λ row. (f row).uid < 2 ^ 32 - 1) (λ row h. let e = same row in omega arith) rows are.below);
}

pub filtered_rows : (test : ℕ → Bool) (rows : List Row) → AreRows rows → AreRows (filter (λ row. test row.uid) rows)
filtered_rows test rows are = record {
  rising = subst IsStrictlyIncreasing (sym (map_filter (λ (row : Row). row.uid) test rows)) (IsStrictlyIncreasing-filter test (map (λ row. row.uid) rows) are.rising);
  below = All-filter (λ row. test row.uid) (λ row. row.uid < 2 ^ 32 - 1) rows are.below;
}

pub pushed_rows : (rows : List Row) (row : Row) → All (λ other. other.uid < row.uid) rows → row.uid < 2 ^ 32 - 1 → AreRows rows → AreRows (rows ++ row ∷ [])
pushed_rows rows row above low are = record {
  rising = subst IsStrictlyIncreasing (sym (map_push (λ (r : Row). r.uid) rows row))
      (rising_push (map (λ (r : Row). r.uid) rows) row.uid are.rising (All-map (λ x. x < row.uid) (λ (r : Row). r.uid) rows above));
  below = All-push (λ (r : Row). r.uid < 2 ^ 32 - 1) rows row are.below low;
}

-- ---- the counts

-- the flags beside the rows have the rows' counts
pub counted_flags : (bit : ℕ) (rows : List Row) (notes : List ℕ) → notes ≡ map (λ row. row.flags) rows → note_count bit notes ≡ flag_count bit rows
counted_flags bit rows notes same =
    let number : ℕ → ℕ = λ n. cond (not (nat_eq (bit_and n bit) 0)) 1 0 in
    ap (note_count bit) same
    ∙ sym (sum-map number (map (λ (row : Row). row.flags) rows))
    ∙ ap sum (map_map number (λ (row : Row). row.flags) rows)
    ∙ sum-map (λ (row : Row). number row.flags) rows

-- a change that keeps UIDs and flags
pub counted_mapped : (f : Row → Row) → ((row : Row) → (f row).uid ≡ row.uid) → ((row : Row) → (f row).flags ≡ row.flags)
    → (rows : List Row) (notes : List ℕ) (counts : Counts) → AreCounted rows notes counts → AreCounted (map f rows) notes counts
counted_mapped f uids flags rows notes counts counted = record {
  are = mapped_rows f uids rows counted.are;
  flags = counted.flags
      ∙ sym (map_map (λ (row : Row). row.flags) f rows ∙ map_same (λ row. (f row).flags) (λ row. row.flags) flags rows);
  tally = counted.tally;
}

pub counted_push : (rows : List Row) (row : Row) (notes new : List ℕ) (counts after : Counts) → All (λ other. other.uid < row.uid) rows → row.uid < 2 ^ 32 - 1
    → AreCounted rows notes counts → new ≡ notes ++ row.flags ∷ [] → IsTally after new → AreCounted (rows ++ row ∷ []) new after
counted_push rows row notes new counts after above low counted is tally = record {
  are = pushed_rows rows row above low counted.are;
  flags = is ∙ ap (λ l. l ++ row.flags ∷ []) counted.flags ∙ sym (map_push (λ (r : Row). r.flags) rows row);
  tally = tally;
}

-- there are as many flags as rows
pub counted_many : (rows : List Row) (notes : List ℕ) (counts : Counts) → AreCounted rows notes counts → length notes ≡ length rows
counted_many rows notes counts counted = ap length counted.flags ∙ length-map rows (λ (row : Row). row.flags)

-- ---- the place of a UID

pub apart : (rows : List Row) → AreRows rows → (i j : ℕ) (d : Row) → i < j → j < length rows → (get_or rows i d).uid < (get_or rows j d).uid
apart rows are i j d less inside =
    let long : length (map (λ (row : Row). row.uid) rows) ≡ length rows = length-map rows (λ (row : Row). row.uid) in
    let first : get_or (map (λ (row : Row). row.uid) rows) i 0 ≡ (get_or rows i d).uid = get_or-map (λ (row : Row). row.uid) rows i d 0 (omega arith) in
    let second : get_or (map (λ (row : Row). row.uid) rows) j 0 ≡ (get_or rows j d).uid = get_or-map (λ (row : Row). row.uid) rows j d 0 inside in
    let up : get_or (map (λ (row : Row). row.uid) rows) i 0 < get_or (map (λ (row : Row). row.uid) rows) j 0 =
    AllPairs-from_increasing (map (λ (row : Row). row.uid) rows) are.rising i j 0 less (omega arith) in
    omega arith

no_fall_by : (rows : List Row) → AreRows rows → (i j : ℕ) (d : Row) → i ≤ j → j < length rows → (i < j) ⊎ (j ≤ i) → (get_or rows i d).uid ≤ (get_or rows j d).uid
no_fall_by rows are i j d le inside (inl less) = let up = apart rows are i j d less inside in omega arith
no_fall_by rows are i j d le inside (inr more) =
    let same : i ≡ j = omega arith in
    subst (λ k. (get_or rows i d).uid ≤ (get_or rows k d).uid) same (omega arith)

pub no_fall : (rows : List Row) → AreRows rows → (i j : ℕ) (d : Row) → i ≤ j → j < length rows → (get_or rows i d).uid ≤ (get_or rows j d).uid
no_fall rows are i j d le inside = no_fall_by rows are i j d le inside (cases_lt i j)

pub uids_split : (rows : List Row) (uid : ℕ) → AreRows rows → IsPartitionedBy (λ (row : Row). ltb row.uid uid) rows
uids_split rows uid are = IsPartitionedBy-ltb (λ (row : Row). row.uid) rows uid (λ i j d le inside. no_fall_by rows are i j d le inside (cases_lt i j))

no_row : Row
no_row = record { uid = 0; flags = 0; keywords = []; parts = []; modseq = 0 }

not_before : (rows : List Row) (uid at : ℕ) (d : Row) → IsPlace rows uid at → (k : ℕ) → k < at → eqb (get_or rows k d).uid uid ≡ false
not_before rows uid at d place k less = let low = ltb-true (get_or rows k d).uid uid (place.0 k d (omega arith) less) in ne_eqb (get_or rows k d).uid uid (λ e. omega arith)

position_at : (rows : List Row) (uid at : ℕ) → position_or_len (λ (row : Row). eqb row.uid uid) rows ≡ at → at < length rows → position (λ (row : Row). nat_eq row.uid uid) rows ≡ Some at
position_at rows uid at is inside =
    ap (λ n. cond (ltb n (length rows)) (Some n) None) is ∙ cond-true (ltb at (length rows)) (Some at) None (lt-ltb at (length rows) inside)

position_none : (rows : List Row) (uid : ℕ) → position_or_len (λ (row : Row). eqb row.uid uid) rows ≡ length rows → position (λ (row : Row). nat_eq row.uid uid) rows ≡ None
position_none rows uid is =
    ap (λ n. cond (ltb n (length rows)) (Some n) None) is ∙ cond-false (ltb (length rows) (length rows)) (Some (length rows)) None (le-ltb (length rows) (length rows) (omega arith))

-- behind all rows there is none
pub all_below : (rows : List Row) (uid at : ℕ) → IsPlace rows uid at → at ≤ length rows → length rows ≤ at → position (λ (row : Row). nat_eq row.uid uid) rows ≡ None
all_below rows uid at place le end =
    position_none rows uid (position_or_len_is (λ (row : Row). eqb row.uid uid) rows (length rows) no_row (omega arith) (λ k h. not_before rows uid at no_row place k (omega arith)) (λ h. absurd (omega (arith, h))))

-- the first row that isn't below is it
pub is_there : (rows : List Row) (uid at : ℕ) (row : Row) → IsPlace rows uid at → at < length rows → row ≡ get_or rows at row → row.uid ≡ uid → position (λ (r : Row). nat_eq r.uid uid) rows ≡ Some at
is_there rows uid at row place inside is same =
    position_at rows uid at (position_or_len_is (λ (r : Row). eqb r.uid uid) rows at row (omega arith) (not_before rows uid at row place) (λ h. eq-eqb (get_or rows at row).uid uid (sym (ap (λ (r : Row). r.uid) is) ∙ same))) inside

not_at : (rows : List Row) (uid at : ℕ) (row : Row) → AreRows rows → IsPlace rows uid at → at < length rows → row ≡ get_or rows at row → row.uid ≢ uid → (k : ℕ) → k < length rows → (k < at) ⊎ (at ≤ k) → (at < k) ⊎ (k ≤ at) → eqb (get_or rows k row).uid uid ≡ false
not_at rows uid at row are place inside is other k h (inl less) order = not_before rows uid at row place k less
not_at rows uid at row are place inside is other k h (inr from) (inl more) =
    let here : uid ≤ (get_or rows at row).uid = ltb-false (get_or rows at row).uid uid (place.1 at row (omega arith) inside) in
    let up : (get_or rows at row).uid < (get_or rows k row).uid = apart rows are at k row more h in
    ne_eqb (get_or rows k row).uid uid (λ e. omega arith)
not_at rows uid at row are place inside is other k h (inr from) (inr upto) =
    let same : at ≡ k = omega arith in
    ne_eqb (get_or rows k row).uid uid (λ e. other (ap (λ (r : Row). r.uid) is ∙ ap (λ j. (get_or rows j row).uid) same ∙ e))

-- or there is none
pub is_missing : (rows : List Row) (uid at : ℕ) (row : Row) → AreRows rows → IsPlace rows uid at → at < length rows → row ≡ get_or rows at row → row.uid ≢ uid → position (λ (r : Row). nat_eq r.uid uid) rows ≡ None
is_missing rows uid at row are place inside is other =
    position_none rows uid (position_or_len_is (λ (r : Row). eqb r.uid uid) rows (length rows) row (omega arith) (λ k h. not_at rows uid at row are place inside is other k h (cases_lt k at) (cases_lt at k)) (λ h. absurd (omega (arith, h))))

-- ---- a UID above all

-- whether it is above that of the last row
abbrev pub LastTells : ℕ → Row → List Row → Type 0
LastTells uid row rows = (IsTrue (ltb row.uid uid) → All (λ other. other.uid < uid) rows) × (All (λ other. other.uid < uid) rows → IsTrue (ltb row.uid uid))

pub last_tells : (rows : List Row) (row : Row) (uid : ℕ) → AreRows rows → slice_get rows (length rows - 1) ≡ Some row → LastTells uid row rows
last_tells rows row uid are is = (
  λ true_is k d h.
      let less : row.uid < uid = ltb-true row.uid uid true_is in
      let same : (get_or rows (length rows - 1) d).uid ≡ row.uid = ap (λ (r : Row). r.uid) (last d) in
      let upto : (get_or rows k d).uid ≤ (get_or rows (length rows - 1) d).uid = no_fall_by rows are k (length rows - 1) d (omega arith) inside (cases_lt k (length rows - 1)) in
      omega arith,
  λ all.
      let less : (get_or rows (length rows - 1) row).uid < uid = all (length rows - 1) row inside in
      let same : (get_or rows (length rows - 1) row).uid ≡ row.uid = ap (λ (r : Row). r.uid) (last row) in
      lt-ltb row.uid uid (omega arith),
)
  where
    inside : length rows - 1 < length rows
    inside = slice_get_within rows (length rows - 1) row is

    last : (d : Row) → get_or rows (length rows - 1) d ≡ row
    last d = let there : Some (get_or rows (length rows - 1) d) ≡ Some row = sym (slice_get-get_or rows (length rows - 1) d inside) ∙ is in cc
