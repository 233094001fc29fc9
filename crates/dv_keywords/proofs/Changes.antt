-- A row's keywords with one more, and that they stay places of the table, in rising order.
use Rattle.std.proofs.Common.{◌≡◌, inl, inr, ℕ, zero, suc, ◌+◌, ◌<◌, ◌≤◌, cond, eqb, ltb, List, [], ◌∷◌, ◌++◌, length, get_or, take, drop, All, refl, sym, subst, ◌∙◌, ap, arith, append_assoc}
use Rattle.std.specs.List.Sorted.{IsStrictlyIncreasing}
use Rattle.std.proofs.lemmas.Bool.{cases_order, cond-true, cond-false, lt-ltb, le-ltb, eq-eqb, ne_eqb}
use Rattle.std.proofs.lemmas.List.{drop_more, drop_all, take_more, take-append-drop}
use Rattle.std.proofs.lemmas.List.Elements.{All-cons, All-filter, All-head, All-nil, All-tail}
use Rattle.std.proofs.lemmas.List.Kept.{IsStrictlyIncreasing-filter}
use Rattle.dv_model.specs.declared.types.How.{How}
use Rattle.dv_model.specs.declared.types.How.TheVariants.{Add, Remove, Replace}
use Rattle.dv_model.specs.Effects.{keywords_after, with_place}
use Rattle.dv_formats.proofs.Bits.{Rise}
use Rattle.dv_formats.proofs.Wholes.{rise_of}

before_larger : (k p : ℕ) (ps : List ℕ) → k < p → with_place k (p ∷ ps) ≡ k ∷ p ∷ ps
before_larger k p ps less = cond-true (ltb k p) (k ∷ p ∷ ps) (cond (eqb k p) (p ∷ ps) (p ∷ with_place k ps)) (lt-ltb k p less)

at_same : (k p : ℕ) (ps : List ℕ) → k ≡ p → with_place k (p ∷ ps) ≡ p ∷ ps
at_same k p ps same =
    cond-false (ltb k p) (k ∷ p ∷ ps) (cond (eqb k p) (p ∷ ps) (p ∷ with_place k ps)) (le-ltb k p (omega (arith, same))) ∙ cond-true (eqb k p) (p ∷ ps) (p ∷ with_place k ps) (eq-eqb k p same)

behind_smaller : (k p : ℕ) (ps : List ℕ) → p < k → with_place k (p ∷ ps) ≡ p ∷ with_place k ps
behind_smaller k p ps less =
    cond-false (ltb k p) (k ∷ p ∷ ps) (cond (eqb k p) (p ∷ ps) (p ∷ with_place k ps)) (le-ltb k p (omega (arith, less)))
    ∙ cond-false (eqb k p) (p ∷ ps) (p ∷ with_place k ps) (ne_eqb k p (λ same. omega (arith, same, less)))

-- the places before this one are smaller and stay
abbrev pub IsPast : ℕ → List ℕ → ℕ → Type 0
IsPast k ps at = (at ≤ length ps) × (with_place k ps ≡ take at ps ++ with_place k (drop at ps))

pub starts : (k : ℕ) (ps : List ℕ) → IsPast k ps 0
starts k ps = (omega arith, refl)

pub goes_on : (k : ℕ) (ps : List ℕ) (at : ℕ) → IsPast k ps at → at < length ps → get_or ps at 0 < k → IsPast k ps (at + 1)
goes_on k ps at past below less =
    let x = get_or ps at 0 in (
      omega (arith, below),
      past.1 ∙ ap (λ l. take at ps ++ with_place k l) (drop_more ps at 0 below) ∙ ap (λ l. take at ps ++ l) (behind_smaller k x (drop (at + 1) ps) less)
          ∙ sym (append_assoc (take at ps) (x ∷ []) (with_place k (drop (at + 1) ps))) ∙ ap (λ l. l ++ with_place k (drop (at + 1) ps)) (sym (take_more ps at 0 below)),
    )

pub is_there : (k : ℕ) (ps : List ℕ) (at : ℕ) → IsPast k ps at → at < length ps → get_or ps at 0 ≡ k → with_place k ps ≡ ps
is_there k ps at past below same =
    past.1 ∙ ap (λ l. take at ps ++ with_place k l) (drop_more ps at 0 below) ∙ ap (λ l. take at ps ++ l) (at_same k (get_or ps at 0) (drop (at + 1) ps) (sym same))
    ∙ ap (λ l. take at ps ++ l) (sym (drop_more ps at 0 below)) ∙ take-append-drop at ps

pub goes_before : (k : ℕ) (ps : List ℕ) (at : ℕ) → IsPast k ps at → at < length ps → k < get_or ps at 0 → with_place k ps ≡ take at ps ++ k ∷ drop at ps
goes_before k ps at past below less =
    past.1 ∙ ap (λ l. take at ps ++ with_place k l) (drop_more ps at 0 below) ∙ ap (λ l. take at ps ++ l) (before_larger k (get_or ps at 0) (drop (at + 1) ps) less)
    ∙ ap (λ l. take at ps ++ k ∷ l) (sym (drop_more ps at 0 below))

pub goes_last : (k : ℕ) (ps : List ℕ) (at : ℕ) → IsPast k ps at → length ps ≤ at → with_place k ps ≡ take at ps ++ k ∷ drop at ps
goes_last k ps at past end =
    past.1 ∙ ap (λ l. take at ps ++ with_place k l) (drop_all at ps end) ∙ ap (λ l. take at ps ++ k ∷ l) (sym (drop_all at ps end))

-- ---- the order stays

rising_of : (n : ℕ) (ns : List ℕ) → Rise n ns → IsStrictlyIncreasing ns
rising_of n [] rise k below = absurd (omega (arith, below))
rising_of n (m ∷ []) rise k below = absurd (omega (arith, below))
rising_of n (m ∷ l ∷ ns) rise zero below = let next = rise.1.0 in omega (arith, next)
rising_of n (m ∷ l ∷ ns) rise (suc k) below =
    let next : suc (k + 1) ≡ suc k + 1 = omega arith in
    subst (λ j. get_or (l ∷ ns) k 0 < get_or (m ∷ l ∷ ns) j 0) next (rising_of (m + 1) (l ∷ ns) rise.1 k (omega (arith, below)))

with_place-rise : (k n : ℕ) (ps : List ℕ) → n ≤ k → Rise n ps → Rise n (with_place k ps)
with_place-rise k n [] le rise = (le, tt)
with_place-rise k n (p ∷ ps) le rise =
    elim (cases_order k p) [
      | inl same ↦ subst (Rise n) (sym (at_same k p ps same)) rise
      | inr other ↦ elim other [
        | inl less ↦ subst (Rise n) (sym (before_larger k p ps less)) (le, (omega (arith, less), rise.1))
        | inr more ↦ subst (Rise n) (sym (behind_smaller k p ps more)) (rise.0, with_place-rise k (p + 1) ps (omega (arith, more)) rise.1)
      ]
    ]

pub stay_rising : (how : How) (k : ℕ) (ps : List ℕ) → IsStrictlyIncreasing ps → IsStrictlyIncreasing (keywords_after how k ps)
stay_rising Add k ps up = rising_of 0 (with_place k ps) (with_place-rise k 0 ps (omega arith) (rise_of ps up))
stay_rising Remove k ps up = IsStrictlyIncreasing-filter _ ps up
stay_rising Replace k ps up = λ j below. absurd (omega (arith, below))

-- ---- the places stay in the table

with_place-below : (k n : ℕ) (ps : List ℕ) → k < n → All (λ p. p < n) ps → All (λ p. p < n) (with_place k ps)
with_place-below k n [] less all = All-cons (λ p. p < n) k [] less all
with_place-below k n (p ∷ ps) less all =
    elim (cases_order k p) [
      | inl same ↦ subst (All (λ p. p < n)) (sym (at_same k p ps same)) all
      | inr other ↦ elim other [
        | inl smaller ↦ subst (All (λ p. p < n)) (sym (before_larger k p ps smaller)) (All-cons (λ p. p < n) k (p ∷ ps) less all)
        | inr larger ↦ subst (All (λ p. p < n)) (sym (behind_smaller k p ps larger)) (All-cons (λ p. p < n) p (with_place k ps) (All-head (λ p. p < n) p ps all) (with_place-below k n ps less (All-tail (λ p. p < n) p ps all)))
      ]
    ]

pub stay_below : (how : How) (k n : ℕ) (ps : List ℕ) → k < n → All (λ p. p < n) ps → All (λ p. p < n) (keywords_after how k ps)
stay_below Add k n ps less all = with_place-below k n ps less all
stay_below Remove k n ps less all = All-filter _ (λ p. p < n) ps all
stay_below Replace k n ps less all = All-cons (λ p. p < n) k [] less (All-nil (λ p. p < n))
