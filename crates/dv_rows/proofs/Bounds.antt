-- UIDs rise by one or more from row to row, which bounds the place of a UID from both sides.
use Rattle.std.proofs.Common.{◌≡◌, ◌⊎◌, inl, inr, ℕ, zero, suc, ◌+◌, ◌-◌, ◌<◌, ◌≤◌, true, false, List, length, length-drop, ltb, get_or, take, drop, refl, sym, ◌∙◌, ap, subst, arith}
use Rattle.std.specs.Prelude.{min, nat_lt}
use Rattle.std.specs.List.{AllWithin}
use Rattle.std.specs.List.Sorted.{IsPartitionedBy}
use Rattle.std.proofs.lemmas.List.Sorted.{IsPartitionedBy-ltb}
use Rattle.std.proofs.lemmas.Bool.{lt-ltb, le-ltb}
use Rattle.std.proofs.lemmas.List.{get_or-drop, get_or-take, get_or_default, length-take}
use Rattle.std.proofs.lemmas.Bool.{cases_lt}
use Rattle.dv_model.specs.declared.types.Row.{Row}
use Rattle.dv_rows.specs.Kept.{AreRows}
use Rattle.dv_rows.specs.Places.{AreBounds, IsPlace}
use Rattle.dv_rows.proofs.Rising.{apart, no_fall}

module _ (rows : List Row) (are : AreRows rows) where
  -- so many rows further on the UID is higher by at least as many
  spread : (n i j : ℕ) (d : Row) → i + n ≡ j → j < length rows → (get_or rows i d).uid + n ≤ (get_or rows j d).uid
  spread zero i j d e inside =
      let same : i ≡ j = omega arith in
      subst (λ k. (get_or rows i d).uid + 0 ≤ (get_or rows k d).uid) same (omega arith)
  spread (suc n) i j d e inside =
      let low : (get_or rows i d).uid + n ≤ (get_or rows (i + n) d).uid = spread n i (i + n) d refl (omega arith) in
      let up = apart rows are (i + n) j d (omega arith) inside in
      omega arith

  pub bounds_hold : (uid : ℕ) (first last : Row) → 0 < length rows → first ≡ get_or rows 0 first → last ≡ get_or rows (length rows - 1) last
      → AreBounds rows uid (length rows - ((last.uid + 1) - uid)) (min (length rows) (uid - first.uid))
  bounds_hold uid first last some first-is last-is =
      let n = length rows in
      let front : (d : Row) → (get_or rows 0 d).uid ≡ first.uid = λ d. ap (λ (row : Row). row.uid) (get_or_default rows 0 d first some ∙ sym first-is) in
      let back : (d : Row) → (get_or rows (n - 1) d).uid ≡ last.uid = λ d. ap (λ (row : Row). row.uid) (get_or_default rows (n - 1) d last (omega arith) ∙ sym last-is) in
      let all = spread (n - 1) 0 (n - 1) last (omega arith) (omega arith) in
      let from = front last in
      let to = back last in
      record {
        order = omega arith;
        inside = omega arith;
        before = λ k d low less. let up = spread (n - 1 - k) k (n - 1) d (omega arith) (omega arith) in let same = back d in omega arith;
        behind = λ k d high less. let up = spread k 0 k d (omega arith) less in let same = front d in omega arith;
      }

  module _ (uid low high : ℕ) (order : low ≤ high) (inside : high ≤ length rows) where
    abbrev between : List Row
    between = drop low (take high rows)

    long : length between ≡ high - low
    long = length-drop low (take high rows) ∙ ap (λ (n : ℕ). n - low) (length-take high rows ∙ (let same : min high (length rows) ≡ high = omega arith in same))

    here_is : (k : ℕ) (d : Row) → low ≤ k → k < high → get_or between (k - low) d ≡ get_or rows k d
    here_is k d le less =
        get_or-drop low (take high rows) (k - low) d
        ∙ ap (λ j. get_or (take high rows) j d) (let same : low + (k - low) ≡ k = omega arith in same)
        ∙ get_or-take high rows k d less

    there_is : (i : ℕ) (d : Row) → i < high - low → get_or between i d ≡ get_or rows (low + i) d
    there_is i d less = get_or-drop low (take high rows) i d ∙ get_or-take high rows (low + i) d (omega arith)

    pub between_split : IsPartitionedBy (λ (row : Row). ltb row.uid uid) between
    between_split =
        IsPartitionedBy-ltb (λ (row : Row). row.uid) between uid (λ i j d le less.
        let up = no_fall rows are (low + i) (low + j) d (omega arith) (omega (arith, long, less)) in
        let one = ap (λ (row : Row). row.uid) (there_is i d (omega (arith, long, less, le))) in
        let two = ap (λ (row : Row). row.uid) (there_is j d (omega (arith, long, less))) in
        omega arith)

    -- the place among the rows between the bounds
    pub place_between : (at : ℕ) → AreBounds rows uid low high → IsPlace between uid at → at ≤ length between → IsPlace rows uid (low + at)
    place_between at bounds place at_most = (before, behind)
      where
        before : AllWithin (λ (row : Row). nat_lt row.uid uid ≡ true) rows 0 (low + at)
        before k d le less = by (cases_lt k low)
          where
            by : (k < low) ⊎ (low ≤ k) → nat_lt (get_or rows k d).uid uid ≡ true
            by (inl small) = lt-ltb (get_or rows k d).uid uid (bounds.before k d le small)
            by (inr large) = subst (λ (row : Row). nat_lt row.uid uid ≡ true) (here_is k d large (omega (arith, less, at_most, long))) (place.0 (k - low) d (omega arith) (omega arith))

        behind : AllWithin (λ (row : Row). nat_lt row.uid uid ≡ false) rows (low + at) (length rows)
        behind k d le less = by (cases_lt k high)
          where
            by : (k < high) ⊎ (high ≤ k) → nat_lt (get_or rows k d).uid uid ≡ false
            by (inl small) = subst (λ (row : Row). nat_lt row.uid uid ≡ false) (here_is k d (omega (arith, le)) small) (place.1 (k - low) d (omega arith) (omega (arith, long)))
            by (inr large) = le-ltb (get_or rows k d).uid uid (bounds.behind k d large less)
