-- Rows by rising UID: the last has the largest, and a range of UIDs is an interval of places.
use Rattle.std.proofs.Common.{◌≡◌, ◌⊎◌, inl, inr, ℕ, zero, suc, ◌-◌, ◌<◌, ◌≤◌, Bool, true, false, List, [], ◌∷◌, length, get_or, map, fold, sym, ◌∙◌, ap, subst, arith, ltb, leb}
use Rattle.std.specs.Prelude.{max, nat_le, nat_lt, ◌&&◌}
use Rattle.std.specs.List.Sorted.{IsNonDecreasingBy, IsPartitionPoint, IsStrictlyIncreasing}
use Rattle.std.proofs.lemmas.Bool.{cases_lt, lt-ltb, le-ltb, le-leb, lt-leb, ltb-true, ltb-false}
use Rattle.std.proofs.lemmas.List.{get_or-map, get_or_default, length-map}
use Rattle.std.proofs.lemmas.List.Kept.{AllPairs-from_increasing}
use Rattle.dv_model.specs.declared.types.Shown.{Shown}
use Rattle.dv_sets.specs.Intervals.{is_within}

abbrev uid_of : Shown → ℕ
uid_of s = s.uid

abbrev largest : ℕ → List Shown → ℕ
largest n rows = fold (λ m s. max m s.uid) n rows

module _ (rows : List Shown) (rising : IsStrictlyIncreasing (map (λ row. row.uid) rows)) where
  pub no_fall : IsNonDecreasingBy (λ (s : Shown). s.uid) rows
  no_fall i j d le less = by (cases_lt i j)
    where
      by : (i < j) ⊎ (j ≤ i) → (get_or rows i d).uid ≤ (get_or rows j d).uid
      by (inl before) =
          let up = AllPairs-from_increasing (map uid_of rows) rising i j 0 before (subst (λ n. j < n) (sym (length-map rows uid_of)) less) in
          let one = get_or-map uid_of rows i d 0 (omega arith) in
          let two = get_or-map uid_of rows j d 0 less in
          omega arith
      by (inr behind) = let same : i ≡ j = omega arith in subst (λ k. (get_or rows i d).uid ≤ (get_or rows k d).uid) same (omega arith)

-- the largest is above where it began and above each row
above : (n : ℕ) (rows : List Shown) → n ≤ largest n rows
above n [] = omega arith
above n (s ∷ rows) = let more = above (max n s.uid) rows in omega arith

reached : (n : ℕ) (rows : List Shown) (k : ℕ) (d : Shown) → k < length rows → (get_or rows k d).uid ≤ largest n rows
reached n [] k d less = absurd (omega arith)
reached n (s ∷ rows) zero d less = let more = above (max n s.uid) rows in omega arith
reached n (s ∷ rows) (suc k) d less = reached (max n s.uid) rows k d (omega arith)

-- and no higher than a bound of all of them
bounded : (n m : ℕ) (rows : List Shown) → n ≤ m → ((k : ℕ) (d : Shown) → k < length rows → (get_or rows k d).uid ≤ m) → largest n rows ≤ m
bounded n m [] le all = le
bounded n m (s ∷ rows) le all =
    let here : s.uid ≤ m = all zero s (omega arith) in
    bounded (max n s.uid) m rows (omega arith) (λ k d less. all (suc k) d (omega arith))

pub last_is_largest : (rows : List Shown) (row : Shown) → IsStrictlyIncreasing (map (λ row. row.uid) rows) → 0 < length rows
    → row ≡ get_or rows (length rows - 1) row → row.uid ≡ largest 0 rows
last_is_largest rows row rising some is =
    let low = reached 0 rows (length rows - 1) row (omega arith) in
    let same = ap uid_of is in
    let high : largest 0 rows ≤ row.uid = bounded 0 row.uid rows (omega arith) (λ k d less.
    let up = no_fall rows rising k (length rows - 1) d (omega arith) (omega arith) in
    let last = ap uid_of (get_or_default rows (length rows - 1) d row (omega arith)) in
    omega arith) in
    omega arith

-- the places from the first UID that isn't below the range to the first behind it
pub range_places : (rows : List Shown) (low high from to : ℕ)
    → IsPartitionPoint (λ (s : Shown). ltb s.uid low ≡ true) (λ (s : Shown). ltb s.uid low ≡ false) rows from
    → IsPartitionPoint (λ (s : Shown). leb s.uid high ≡ true) (λ (s : Shown). leb s.uid high ≡ false) rows to
    → (k : ℕ) (d : Shown) → k < length rows → is_within k (record { from = from; to = to }) ≡ (nat_le low (get_or rows k d).uid && nat_le (get_or rows k d).uid high)
range_places rows low high from to first last k d less = both (one (cases_lt k from)) (two (cases_lt k to))
  where
    uid : ℕ
    uid = (get_or rows k d).uid

    one : (k < from) ⊎ (from ≤ k) → nat_le from k ≡ nat_le low uid
    one (inl before) = lt-leb from k before ∙ sym (lt-leb low uid (ltb-true uid low (first.0 k d (omega arith) before)))
    one (inr behind) = le-leb from k behind ∙ sym (le-leb low uid (ltb-false uid low (first.1 k d behind less)))

    two : (k < to) ⊎ (to ≤ k) → nat_lt k to ≡ nat_le uid high
    two (inl before) = lt-ltb k to before ∙ sym (last.0 k d (omega arith) before)
    two (inr behind) = le-ltb k to behind ∙ sym (last.1 k d behind less)

    both : nat_le from k ≡ nat_le low uid → nat_lt k to ≡ nat_le uid high → (nat_le from k && nat_lt k to) ≡ (nat_le low uid && nat_le uid high)
    both p q = ap (λ (b : Bool). b && nat_lt k to) p ∙ ap (λ (b : Bool). nat_le low uid && b) q
