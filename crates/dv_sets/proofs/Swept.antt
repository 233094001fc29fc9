-- Numbers by intervals that begin in rising order: each is given once.
use Rattle.std.proofs.Common.{◌≡◌, ◌⊎◌, inl, inr, ℕ, zero, suc, ◌+◌, ◌-◌, ◌<◌, ◌≤◌, Bool, true, false, cond, List, [], ◌∷◌, ◌++◌, length, get_or, take, map, refl, sym, ◌∙◌, ap, subst, arith, append_assoc}
use Rattle.std.specs.Prelude.{All, filter, max, nat_le, nat_lt}
use Rattle.std.specs.List.{range_with_len}
use Rattle.std.specs.List.Sorted.{IsNonDecreasingBy}
use Rattle.std.proofs.lemmas.Bool.{and_from, and_left, and_right, cases_lt, lt-ltb, le-ltb, le-leb, lt-leb}
use Rattle.std.specs.List.Sorted.{IsPermutation}
use Rattle.std.proofs.lemmas.List.Elements.{All-map}
use Rattle.std.proofs.lemmas.Map.Views.{All-map-IsPermutation}
use Rattle.std.proofs.lemmas.List.{get_or-map, length-map, append-nil, map-append, take_all, get_or-take, get_or_default, length-take}
use Rattle.std.proofs.lemmas.List.Elements.{filter-append}
use Rattle.std.proofs.lemmas.List.Folds.{list_any_at, list_any_none}
use Rattle.std.proofs.lemmas.List.FromFn.{map-range_with_len_more}
use Rattle.dv_model.specs.declared.types.Shown.{Shown}
use Rattle.dv_sets.specs.declared.intervals.Interval.{Interval}
use Rattle.dv_sets.specs.Intervals.{AreInside, is_covered, is_within, numbers_where}
use Rattle.dv_sets.proofs.Chosen.{chosen, chosen_more}

-- ---- one place more

range_push : (a n : ℕ) → range_with_len a (n + 1) ≡ range_with_len a n ++ (a + n) ∷ []
range_push a zero = ap (λ (k : ℕ). k ∷ []) (omega arith)
range_push a (suc n) =
    let same : a + 1 + n ≡ a + suc n = omega arith in
    let next : suc n + 1 ≡ suc (n + 1) = omega arith in
    ap (range_with_len a) next
    ∙ ap (λ (t : List ℕ). a ∷ t) (range_push (a + 1) n ∙ ap (λ k. range_with_len (a + 1) n ++ k ∷ []) same)

one : (b : Bool) (k : ℕ) → map (λ (j : ℕ). j + 1) (cond b (k ∷ []) []) ≡ cond b ((k + 1) ∷ []) []
one true k = refl
one false k = refl

where_more : (test : ℕ → Bool) (n : ℕ) → numbers_where test (n + 1) ≡ numbers_where test n ++ cond (test n) ((n + 1) ∷ []) []
where_more test n =
    ap (λ (t : List ℕ). map (λ (k : ℕ). k + 1) (filter test t)) (range_push 0 n)
    ∙ ap (λ (t : List ℕ). map (λ (k : ℕ). k + 1) t) (filter-append test (range_with_len 0 n) ((0 + n) ∷ []))
    ∙ map-append (λ (k : ℕ). k + 1) (filter test (range_with_len 0 n)) (cond (test (0 + n)) ((0 + n) ∷ []) [])
    ∙ ap (λ (t : List ℕ). numbers_where test n ++ t) (one (test (0 + n)) (0 + n) ∙ ap (λ (k : ℕ). cond (test k) ((k + 1) ∷ []) []) (let same : 0 + n ≡ n = omega arith in same))

-- places that don't pass add nothing
pub gap : (test : ℕ → Bool) (a b n : ℕ) → a + n ≡ b → ((k : ℕ) → a ≤ k → k < b → test k ≡ false) → numbers_where test b ≡ numbers_where test a
gap test a b zero e fails = ap (numbers_where test) (let same : b ≡ a = omega arith in same)
gap test a b (suc n) e fails =
    let step : b ≡ (a + n) + 1 = omega arith in
    ap (numbers_where test) step
    ∙ where_more test (a + n)
    ∙ ap (λ (c : Bool). numbers_where test (a + n) ++ cond c ((a + n + 1) ∷ []) []) (fails (a + n) (omega arith) (omega arith))
    ∙ append-nil (numbers_where test (a + n))
    ∙ gap test a (a + n) n refl (λ k le less. fails k le (omega arith))

-- places that pass add each its number
pub run : (test : ℕ → Bool) (a b n : ℕ) → a + n ≡ b → ((k : ℕ) → a ≤ k → k < b → test k ≡ true)
    → numbers_where test b ≡ numbers_where test a ++ map (λ (k : ℕ). k + 1) (range_with_len a n)
run test a b zero e passes = ap (numbers_where test) (let same : b ≡ a = omega arith in same) ∙ sym (append-nil (numbers_where test a))
run test a b (suc n) e passes =
    let step : b ≡ (a + n) + 1 = omega arith in
    let next : suc n ≡ n + 1 = omega arith in
    ap (numbers_where test) step
    ∙ where_more test (a + n)
    ∙ ap (λ (c : Bool). numbers_where test (a + n) ++ cond c ((a + n + 1) ∷ []) []) (passes (a + n) (omega arith) (omega arith))
    ∙ ap (λ (t : List ℕ). t ++ (a + n + 1) ∷ []) (run test a (a + n) n refl (λ k le less. passes k le (omega arith)))
    ∙ append_assoc (numbers_where test a) (map (λ (k : ℕ). k + 1) (range_with_len a n)) ((a + n + 1) ∷ [])
    ∙ ap (λ (t : List ℕ). numbers_where test a ++ t) (sym (map-range_with_len_more (λ (k : ℕ). k + 1) a n (a + n) refl))
    ∙ ap (λ (m : ℕ). numbers_where test a ++ map (λ (k : ℕ). k + 1) (range_with_len a m)) (sym next)

-- ---- one interval more

module _ (xs : List Interval) (rising : IsNonDecreasingBy (λ (i : Interval). i.from) xs) where
  outside : (k : ℕ) (i : Interval) → (k < i.from) ⊎ (i.to ≤ k) → is_within k i ≡ false
  outside k i (inl less) = and_left _ (nat_lt k i.to) (lt-leb i.from k less)
  outside k i (inr more) = and_right (nat_le i.from k) _ (le-ltb k i.to more)

  -- nothing behind the first intervals and before the next one is covered
  before : (j next : ℕ) (d : Interval) → j < length xs → All (λ (i : Interval). i.to ≤ next) (take j xs)
      → (k : ℕ) → next ≤ k → k < (get_or xs j d).from → is_covered xs k ≡ false
  before j next d here done k le less = list_any_none (is_within k) xs (λ m e inside. outside k (get_or xs m e) (by m e inside (cases_lt m j)))
    where
      by : (m : ℕ) (e : Interval) → m < length xs → (m < j) ⊎ (j ≤ m) → (k < (get_or xs m e).from) ⊎ ((get_or xs m e).to ≤ k)
      by m e inside (inl early) =
          let low = subst (λ (i : Interval). i.to ≤ next) (get_or-take j xs m e early) (done m e (omega (arith, early, inside, length-take j xs))) in
          inr (omega arith)
      by m e inside (inr late) =
          let up : (get_or xs j e).from ≤ (get_or xs m e).from = rising j m e late inside in
          let same = ap (λ (i : Interval). i.from) (get_or_default xs j e d here) in
          inl (omega arith)

  pub swept : (j next : ℕ) (x : Interval) → j < length xs → x ≡ get_or xs j x → All (λ (i : Interval). i.to ≤ next) (take j xs)
      → numbers_where (is_covered xs) (max x.to next) ≡ numbers_where (is_covered xs) next ++ map (λ (k : ℕ). k + 1) (range_with_len (max x.from next) (x.to - max x.from next))
  swept j next x less is done = by (cases_lt (max x.from next) x.to)
    where
      none : (k : ℕ) → next ≤ k → k < x.from → is_covered xs k ≡ false
      none k le small = before j next x less done k le (subst (λ (i : Interval). k < i.from) is small)

      within : (k : ℕ) → x.from ≤ k → k < x.to → is_covered xs k ≡ true
      within k le small =
          list_any_at (is_within k) xs j x less
          (subst (λ (i : Interval). is_within k i ≡ true) is (and_from (nat_le x.from k) (nat_lt k x.to) (le-leb x.from k le) (lt-ltb k x.to small)))

      by : (max x.from next < x.to) ⊎ (x.to ≤ max x.from next)
          → numbers_where (is_covered xs) (max x.to next) ≡ numbers_where (is_covered xs) next ++ map (λ (k : ℕ). k + 1) (range_with_len (max x.from next) (x.to - max x.from next))
      by (inl some) =
          let from = max x.from next in
          let to : max x.to next ≡ x.to = omega arith in
          ap (numbers_where (is_covered xs)) to
          ∙ run (is_covered xs) from x.to (x.to - from) (omega arith) (λ k le small. within k (omega arith) small)
          ∙ ap (λ (t : List ℕ). t ++ map (λ (k : ℕ). k + 1) (range_with_len from (x.to - from)))
          (gap (is_covered xs) next from (from - next) (omega arith) (λ k le small. none k le (omega arith)))
      by (inr behind) =
          let from = max x.from next in
          let empty : x.to - from ≡ 0 = omega arith in
          gap (is_covered xs) next (max x.to next) (max x.to next - next) (omega arith) (λ k le small. none k le (omega arith))
          ∙ sym (append-nil (numbers_where (is_covered xs) next))
          ∙ ap (λ (n : ℕ). numbers_where (is_covered xs) next ++ map (λ (k : ℕ). k + 1) (range_with_len from n)) (sym empty)

  -- behind the last interval nothing is covered
  pub rest : (next count : ℕ) → next ≤ count → All (λ (i : Interval). i.to ≤ next) xs → numbers_where (is_covered xs) count ≡ numbers_where (is_covered xs) next
  rest next count le done =
      gap (is_covered xs) next count (count - next) (omega arith) (λ k low less. list_any_none (is_within k) xs (λ m e inside. outside k (get_or xs m e) (inr (let to = done m e inside in omega arith))))

-- ---- rows

-- where a row passes by its place alone
pub chosen_where : (p : ℕ × Shown → Bool) (test : ℕ → Bool) (rows : List Shown)
    → ((k : ℕ) (d : Shown) → k < length rows → p (k + 1, get_or rows k d) ≡ test k) → chosen p rows ≡ numbers_where test (length rows)
chosen_where p test rows same =
    ap (chosen p) (sym (take_all (length rows) rows (omega arith))) ∙ by (length rows) (omega arith)
  where
    blank : Shown
    blank = record { uid = 0; flags = 0; keywords = []; modseq = 0 }

    by : (n : ℕ) → n ≤ length rows → chosen p (take n rows) ≡ numbers_where test n
    by zero le = refl
    by (suc n) le =
        let next : suc n ≡ n + 1 = omega arith in
        ap (λ (m : ℕ). chosen p (take m rows)) next
        ∙ chosen_more p rows n blank (omega arith)
        ∙ ap (λ (t : List ℕ). t ++ cond (p (n + 1, get_or rows n blank)) ((n + 1) ∷ []) []) (by n (omega arith))
        ∙ ap (λ (b : Bool). numbers_where test n ++ cond b ((n + 1) ∷ []) []) (same n blank (omega arith))
        ∙ sym (where_more test n)
        ∙ ap (numbers_where test) (sym next)

-- tests that agree on the places pass the same
pub where_same : (test other : ℕ → Bool) → ((k : ℕ) → test k ≡ other k) → (n : ℕ) → numbers_where test n ≡ numbers_where other n
where_same test other same zero = refl
where_same test other same (suc n) =
    let next : suc n ≡ n + 1 = omega arith in
    ap (numbers_where test) next
    ∙ where_more test n
    ∙ ap (λ (t : List ℕ). t ++ cond (test n) ((n + 1) ∷ []) []) (where_same test other same n)
    ∙ ap (λ (b : Bool). numbers_where other n ++ cond b ((n + 1) ∷ []) []) (same n)
    ∙ sym (where_more other n)
    ∙ ap (numbers_where other) (sym next)

-- a list and its permutation end alike
pub inside_permuted : (count : ℕ) (xs ys : List Interval) → IsPermutation xs ys → AreInside count xs → AreInside count ys
inside_permuted count xs ys permuted inside k d less =
    let ends = All-map-IsPermutation (λ (i : Interval). i.to) (λ n. n ≤ count) xs ys permuted (All-map (λ n. n ≤ count) (λ (i : Interval). i.to) xs inside) in
    subst (λ n. n ≤ count) (get_or-map (λ (i : Interval). i.to) ys k d 0 less)
    (ends k 0 (subst (λ n. k < n) (sym (length-map ys (λ (i : Interval). i.to))) less))
