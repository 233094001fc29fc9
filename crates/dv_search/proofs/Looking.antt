-- Where the item with a number stands among items by rising numbers, and where the field of a name stands.
use Rattle.std.proofs.Common.{◌≡◌, ◌≢◌, ◌⊎◌, inl, inr, ℕ, ◌<◌, ◌≤◌, true, false, eqb, ltb, List, [], ◌∷◌, ◌++◌, All, length, get_or, Option, Some, None, sym, ◌∙◌, ap, subst, arith}
use Rattle.std.specs.Prelude.{map, find, nat_eq, bytes_eq, slice_get, unwrap_or}
use Rattle.std.specs.List.{position_or_len}
use Rattle.std.specs.List.Sorted.{IsPartitionedBy, IsPartitionPoint, IsStrictlyIncreasing}
use Rattle.std.specs.Option.{option_map}
use Rattle.std.proofs.lemmas.Bool.{cases_lt, eq-eqb, ltb-true, ltb-false, ne_eqb}
use Rattle.std.proofs.lemmas.List.{get_or-map, length-map, map-append}
use Rattle.std.proofs.lemmas.List.Elements.{All-map}
use Rattle.std.proofs.lemmas.List.Folds.{find_at}
use Rattle.std.proofs.lemmas.List.Kept.{AllPairs-from_increasing}
use Rattle.std.proofs.lemmas.List.Sorted.{IsPartitionedBy-ltb}
use Rattle.std.proofs.lemmas.List.Sums.{position_or_len_is}
use Rattle.std.proofs.lemmas.Option.{slice_get_past}
use Rattle.dv_search.specs.Facts.{AreRising, known_field}
use Rattle.dv_search.specs.declared.facts.MailFacts.{MailFacts}
use Rattle.dv_validity.proofs.Rows.{rising_push}

-- ---- by number

module _ {X : Type 0} (n : X → ℕ) (xs : List X) (u : ℕ) where
  abbrev pub IsPlace : ℕ → Type 0
  IsPlace at = IsPartitionPoint (λ x. ltb (n x) u ≡ true) (λ x. ltb (n x) u ≡ false) xs at

  not_before : (at : ℕ) (d : X) → IsPlace at → (k : ℕ) → k < at → eqb (n (get_or xs k d)) u ≡ false
  not_before at d place k less = let low = ltb-true (n (get_or xs k d)) u (place.0 k d (omega arith) less) in ne_eqb (n (get_or xs k d)) u (λ e. omega arith)

  -- nowhere
  none : (d : X) → ((k : ℕ) → k < length xs → eqb (n (get_or xs k d)) u ≡ false) → find (λ x. nat_eq (n x) u) xs ≡ None
  none d fails =
      let at : position_or_len (λ x. eqb (n x) u) xs ≡ length xs = position_or_len_is (λ x. eqb (n x) u) xs (length xs) d (omega arith) fails (λ h. absurd (omega (arith, h))) in
      find_at (λ x. nat_eq (n x) u) xs ∙ ap (slice_get xs) at ∙ slice_get_past xs (length xs) (omega arith)

  pub behind : (at : ℕ) (d : X) → IsPlace at → length xs ≤ at → find (λ x. nat_eq (n x) u) xs ≡ None
  behind at d place le = none d (λ k less. not_before at d place k (omega arith))

  pub here : (at : ℕ) (x : X) → IsPlace at → at < length xs → x ≡ get_or xs at x → n x ≡ u → slice_get xs at ≡ Some x → find (λ x. nat_eq (n x) u) xs ≡ Some x
  here at x place less is same some =
      let found : position_or_len (λ x. eqb (n x) u) xs ≡ at = position_or_len_is (λ x. eqb (n x) u) xs at x (omega arith) (not_before at x place) (λ h. eq-eqb (n (get_or xs at x)) u (sym (ap n is) ∙ same)) in
      find_at (λ x. nat_eq (n x) u) xs ∙ ap (slice_get xs) found ∙ some

  module _ (rising : IsStrictlyIncreasing (map n xs)) where
    apart : (i j : ℕ) (d : X) → i < j → j < length xs → n (get_or xs i d) < n (get_or xs j d)
    apart i j d less inside =
        let long : length (map n xs) ≡ length xs = length-map xs n in
        let first : get_or (map n xs) i 0 ≡ n (get_or xs i d) = get_or-map n xs i d 0 (omega arith) in
        let second : get_or (map n xs) j 0 ≡ n (get_or xs j d) = get_or-map n xs j d 0 inside in
        let up : get_or (map n xs) i 0 < get_or (map n xs) j 0 = AllPairs-from_increasing (map n xs) rising i j 0 less (omega arith) in
        omega arith

    no_fall : (i j : ℕ) (d : X) → i ≤ j → j < length xs → (i < j) ⊎ (j ≤ i) → n (get_or xs i d) ≤ n (get_or xs j d)
    no_fall i j d le inside (inl less) = let up = apart i j d less inside in omega arith
    no_fall i j d le inside (inr more) =
        let same : i ≡ j = omega arith in
        subst (λ k. n (get_or xs i d) ≤ n (get_or xs k d)) same (omega arith)

    pub split : IsPartitionedBy (λ x. ltb (n x) u) xs
    split = IsPartitionedBy-ltb n xs u (λ i j d le inside. no_fall i j d le inside (cases_lt i j))

    not_at : (at : ℕ) (x : X) → IsPlace at → at < length xs → x ≡ get_or xs at x → n x ≢ u → (k : ℕ) → k < length xs → (k < at) ⊎ (at ≤ k) → (at < k) ⊎ (k ≤ at) → eqb (n (get_or xs k x)) u ≡ false
    not_at at x place inside is other k h (inl less) order = not_before at x place k less
    not_at at x place inside is other k h (inr from) (inl more) =
        let first : u ≤ n (get_or xs at x) = ltb-false (n (get_or xs at x)) u (place.1 at x (omega arith) inside) in
        let up : n (get_or xs at x) < n (get_or xs k x) = apart at k x more h in
        ne_eqb (n (get_or xs k x)) u (λ e. omega arith)
    not_at at x place inside is other k h (inr from) (inr upto) =
        let same : at ≡ k = omega arith in
        ne_eqb (n (get_or xs k x)) u (λ e. other (ap n is ∙ ap (λ j. n (get_or xs j x)) same ∙ e))

    pub between : (at : ℕ) (x : X) → IsPlace at → at < length xs → x ≡ get_or xs at x → n x ≢ u → find (λ x. nat_eq (n x) u) xs ≡ None
    between at x place inside is other = none x (λ k h. not_at at x place inside is other k h (cases_lt k at) (cases_lt at k))

-- one more behind those before it
pub rising_more : (mail : List MailFacts) (f : MailFacts) → AreRising mail → All (λ (x : MailFacts). x.uid < f.uid) mail → AreRising (mail ++ f ∷ [])
rising_more mail f rising low =
    subst IsStrictlyIncreasing (sym (map-append (λ (x : MailFacts). x.uid) mail (f ∷ []))) (rising_push (map (λ (x : MailFacts). x.uid) mail) f.uid rising (All-map (λ n. n < f.uid) (λ (x : MailFacts). x.uid) mail low))

-- ---- by name

-- the field that is found has the value
pub value_is : (fields : List (List ℕ × Option (List ℕ))) (name : List ℕ) (f : List ℕ × Option (List ℕ)) (value : Option (List ℕ))
    → find (λ f. bytes_eq f.0 name) fields ≡ Some f → known_field fields name ≡ Some value → f.1 ≡ value
value_is fields name f value found known = ap (λ o. unwrap_or o f.1) (sym (ap (option_map (λ (f : List ℕ × Option (List ℕ)). f.1)) found) ∙ known)
