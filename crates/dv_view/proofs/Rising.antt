-- Rows by rising UID: how many there can be, and where a UID stands.
use Rattle.std.proofs.Common.{◌≡◌, ◌≢◌, ◌⊎◌, inl, inr, ℕ, ◌+◌, ◌-◌, ◌^◌, ◌<◌, ◌≤◌, true, false, cond, eqb, ltb, List, [], ◌∷◌, length, get_or, Some, None, sym, ◌∙◌, ap, subst, arith}
use Rattle.std.specs.Prelude.{map, position, nat_eq}
use Rattle.std.specs.List.{position_or_len, AllByRecursion}
use Rattle.std.specs.List.Sorted.{IsPartitionedBy, IsPartitionPoint}
use Rattle.std.proofs.lemmas.Bool.{cases_lt, cond-true, cond-false, eq-eqb, le-ltb, lt-ltb, ltb-true, ltb-false, ne_eqb}
use Rattle.std.proofs.lemmas.List.{get_or-map, length-map}
use Rattle.std.proofs.lemmas.List.Kept.{AllPairs-from_increasing}
use Rattle.std.proofs.lemmas.List.Sorted.{IsPartitionedBy-ltb}
use Rattle.std.proofs.lemmas.List.Sums.{position_or_len_is}
use Rattle.dv_model.specs.declared.types.Shown.{Shown}
use Rattle.dv_model.proofs.Clients.{Above, above_of_rising, each_of_all}
use Rattle.dv_view.specs.Orders.{AreRising}

-- ---- how many

pub few_from : (n b : ℕ) (rows : List Shown) → n ≤ b → Above n rows → AllByRecursion (λ s. s.uid < b) rows → length rows + n ≤ b
few_from n b [] le above below = omega arith
few_from n b (s ∷ rows) le above below =
    let from : n ≤ s.uid = above.0 in
    let low : s.uid < b = below.0 in
    let others = few_from (s.uid + 1) b rows (omega arith) above.1 below.1 in
    omega arith

pub few : (rows : List Shown) → AreRising rows → length rows < 2 ^ 32
few rows are =
    let most = few_from 0 (2 ^ 32 - 1) rows (omega arith) (above_of_rising rows are.uids) (each_of_all (λ (s : Shown). s.uid < 2 ^ 32 - 1) rows are.below) in
    omega arith

-- ---- the place of a UID

pub apart : (rows : List Shown) → AreRising rows → (i j : ℕ) (d : Shown) → i < j → j < length rows → (get_or rows i d).uid < (get_or rows j d).uid
apart rows are i j d less inside =
    let uids = map (λ (s : Shown). s.uid) rows in
    let long : length (map (λ (s : Shown). s.uid) rows) ≡ length rows = length-map rows (λ (s : Shown). s.uid) in
    let first : get_or (map (λ (s : Shown). s.uid) rows) i 0 ≡ (get_or rows i d).uid = get_or-map (λ (s : Shown). s.uid) rows i d 0 (omega arith) in
    let second : get_or (map (λ (s : Shown). s.uid) rows) j 0 ≡ (get_or rows j d).uid = get_or-map (λ (s : Shown). s.uid) rows j d 0 inside in
    let up : get_or (map (λ (s : Shown). s.uid) rows) i 0 < get_or (map (λ (s : Shown). s.uid) rows) j 0 = AllPairs-from_increasing uids are.uids i j 0 less (omega arith) in
    omega arith

no_fall_by : (rows : List Shown) → AreRising rows → (i j : ℕ) (d : Shown) → i ≤ j → j < length rows → (i < j) ⊎ (j ≤ i) → (get_or rows i d).uid ≤ (get_or rows j d).uid
no_fall_by rows are i j d le inside (inl less) = let up = apart rows are i j d less inside in omega arith
no_fall_by rows are i j d le inside (inr more) =
    let same : i ≡ j = omega arith in
    subst (λ k. (get_or rows i d).uid ≤ (get_or rows k d).uid) same (omega arith)

pub uids_split : (rows : List Shown) (uid : ℕ) → AreRising rows → IsPartitionedBy (λ (s : Shown). ltb s.uid uid) rows
uids_split rows uid are = IsPartitionedBy-ltb (λ (s : Shown). s.uid) rows uid (λ i j d le inside. no_fall_by rows are i j d le inside (cases_lt i j))

abbrev pub IsPlace : List Shown → ℕ → ℕ → Type 0
IsPlace rows uid at = IsPartitionPoint (λ (s : Shown). ltb s.uid uid ≡ true) (λ (s : Shown). ltb s.uid uid ≡ false) rows at

no_row : Shown
no_row = record { uid = 0; flags = 0; keywords = []; modseq = 0 }

not_before : (rows : List Shown) (uid at : ℕ) (d : Shown) → IsPlace rows uid at → (k : ℕ) → k < at → eqb (get_or rows k d).uid uid ≡ false
not_before rows uid at d place k less = let low = ltb-true (get_or rows k d).uid uid (place.0 k d (omega arith) less) in ne_eqb (get_or rows k d).uid uid (λ e. omega arith)

position_at : (rows : List Shown) (uid at : ℕ) → position_or_len (λ (s : Shown). eqb s.uid uid) rows ≡ at → at < length rows → position (λ (s : Shown). nat_eq s.uid uid) rows ≡ Some at
position_at rows uid at is inside =
    ap (λ n. cond (ltb n (length rows)) (Some n) None) is ∙ cond-true (ltb at (length rows)) (Some at) None (lt-ltb at (length rows) inside)

position_none : (rows : List Shown) (uid : ℕ) → position_or_len (λ (s : Shown). eqb s.uid uid) rows ≡ length rows → position (λ (s : Shown). nat_eq s.uid uid) rows ≡ None
position_none rows uid is =
    ap (λ n. cond (ltb n (length rows)) (Some n) None) is ∙ cond-false (ltb (length rows) (length rows)) (Some (length rows)) None (le-ltb (length rows) (length rows) (omega arith))

-- behind all rows there is none
pub all_below : (rows : List Shown) (uid at : ℕ) → IsPlace rows uid at → at ≤ length rows → length rows ≤ at → position (λ (s : Shown). nat_eq s.uid uid) rows ≡ None
all_below rows uid at place le end =
    position_none rows uid (position_or_len_is (λ (s : Shown). eqb s.uid uid) rows (length rows) no_row (omega arith) (λ k h. not_before rows uid at no_row place k (omega arith)) (λ h. absurd (omega (arith, h))))

-- the first row that isn't below is it
pub is_there : (rows : List Shown) (uid at : ℕ) (row : Shown) → IsPlace rows uid at → at < length rows → row ≡ get_or rows at row → row.uid ≡ uid → position (λ (s : Shown). nat_eq s.uid uid) rows ≡ Some at
is_there rows uid at row place inside is same =
    position_at rows uid at (position_or_len_is (λ (s : Shown). eqb s.uid uid) rows at row (omega arith) (not_before rows uid at row place) (λ h. eq-eqb (get_or rows at row).uid uid (sym (ap (λ (r : Shown). r.uid) is) ∙ same))) inside

not_at : (rows : List Shown) (uid at : ℕ) (row : Shown) → AreRising rows → IsPlace rows uid at → at < length rows → row ≡ get_or rows at row → row.uid ≢ uid → (k : ℕ) → k < length rows → (k < at) ⊎ (at ≤ k) → (at < k) ⊎ (k ≤ at) → eqb (get_or rows k row).uid uid ≡ false
not_at rows uid at row are place inside is other k h (inl less) order = not_before rows uid at row place k less
not_at rows uid at row are place inside is other k h (inr from) (inl more) =
    let here : uid ≤ (get_or rows at row).uid = ltb-false (get_or rows at row).uid uid (place.1 at row (omega arith) inside) in
    let up : (get_or rows at row).uid < (get_or rows k row).uid = apart rows are at k row more h in
    ne_eqb (get_or rows k row).uid uid (λ e. omega arith)
not_at rows uid at row are place inside is other k h (inr from) (inr upto) =
    let same : at ≡ k = omega arith in
    ne_eqb (get_or rows k row).uid uid (λ e. other (ap (λ (r : Shown). r.uid) is ∙ ap (λ j. (get_or rows j row).uid) same ∙ e))

-- or there is none
pub is_missing : (rows : List Shown) (uid at : ℕ) (row : Shown) → AreRising rows → IsPlace rows uid at → at < length rows → row ≡ get_or rows at row → row.uid ≢ uid → position (λ (r : Shown). nat_eq r.uid uid) rows ≡ None
is_missing rows uid at row are place inside is other =
    position_none rows uid (position_or_len_is (λ (r : Shown). eqb r.uid uid) rows (length rows) row (omega arith) (λ k h. not_at rows uid at row are place inside is other k h (cases_lt k at) (cases_lt at k)) (λ h. absurd (omega (arith, h))))
