-- A text is found where it is contained.
use Rattle.std.proofs.Common.{◌≡◌, ℕ, zero, suc, ◌+◌, ◌≤◌, true, false, ◌||◌, List, [], ◌∷◌, length, take, Option, Some, None, refl, sym, ap, ◌∙◌, ◌⊎◌, inl, inr, arith}
use Rattle.std.specs.Prelude.{is_some, bytes_eq, slice_index}
use Rattle.std.proofs.lemmas.Bool.{and_parts, cases_Bool, or_right}
use Rattle.memchr.specs.Find.{FindsNeedle, Nowhere, OccursAt}
use Rattle.memchr.proofs.lemmas.MatchLemmas.{occurs_at-true, OccursAt-from_part}
use Rattle.std.proofs.lemmas.List.{length-take}
use Rattle.std.proofs.lemmas.Slice.Eq.{bytes_eq-Decides}
use Rattle.dv_model.specs.Searches.{contains_text}

module _ (text : List ℕ) where
  -- one byte further on
  later : (b : ℕ) (bytes : List ℕ) (k : ℕ) → OccursAt (b ∷ bytes) text (suc k) → OccursAt bytes text k
  later b bytes k occurs = record {
    fits = omega (arith, occurs.fits);
    reads = λ j less.
        let next : suc (k + j) ≡ suc k + j = omega arith in
        ap (slice_index (b ∷ bytes)) next ∙ occurs.reads j less;
  }

  sooner : (b : ℕ) (bytes : List ℕ) (k : ℕ) → OccursAt bytes text k → OccursAt (b ∷ bytes) text (suc k)
  sooner b bytes k occurs = record {
    fits = omega (arith, occurs.fits);
    reads = λ j less.
        let next : suc k + j ≡ suc (k + j) = omega arith in
        ap (slice_index (b ∷ bytes)) next ∙ occurs.reads j less;
  }

  -- the text stands at the front
  at_front : (bytes : List ℕ) → OccursAt bytes text 0 → bytes_eq (take (length text) bytes) text ≡ true
  at_front bytes occurs = (and_parts _ _ (occurs_at-true bytes text 0 occurs)).1

  contained : (bytes : List ℕ) (k : ℕ) → OccursAt bytes text k → contains_text bytes text ≡ true
  contained [] k occurs = empty text occurs.fits
    where
      empty : (t : List ℕ) → k + length t ≤ 0 → bytes_eq t [] ≡ true
      empty [] fits = refl
      empty (x ∷ t) fits = absurd (omega (arith, fits))
  contained (b ∷ bytes) zero occurs = ap (λ t. t || contains_text bytes text) (at_front (b ∷ bytes) occurs)
  contained (b ∷ bytes) (suc k) occurs = ap (λ t. bytes_eq (take (length text) (b ∷ bytes)) text || t) (contained bytes k (later b bytes k occurs)) ∙ or_right (bytes_eq (take (length text) (b ∷ bytes)) text) true refl

  not_contained : (bytes : List ℕ) → Nowhere (OccursAt bytes text) 0 (length bytes + 1) → contains_text bytes text ≡ false
  not_contained [] nowhere = filled text nowhere
    where
      filled : (t : List ℕ) → Nowhere (OccursAt [] t) 0 (0 + 1) → bytes_eq t [] ≡ false
      filled [] nowhere = absurd (nowhere 0 (omega arith) (omega arith) (record { fits = omega arith; reads = λ j less. absurd (omega (arith, less)) }))
      filled (x ∷ t) nowhere = refl
  not_contained (b ∷ bytes) nowhere =
      ap (λ t. t || contains_text bytes text) (not_front (cases_Bool (bytes_eq (take (length text) (b ∷ bytes)) text))) ∙ not_contained bytes (λ k low high occurs. nowhere (suc k) (omega arith) (omega arith) (sooner b bytes k occurs))
    where
      not_front : (bytes_eq (take (length text) (b ∷ bytes)) text ≡ true) ⊎ (bytes_eq (take (length text) (b ∷ bytes)) text ≡ false) → bytes_eq (take (length text) (b ∷ bytes)) text ≡ false
      not_front (inl same) =
          let whole : take (length text) (b ∷ bytes) ≡ text = (bytes_eq-Decides (take (length text) (b ∷ bytes)) text).0 same in
          let short : 0 + length text ≤ suc (length bytes) = omega (arith, length-take (length text) (b ∷ bytes), ap length whole) in
          absurd (nowhere 0 (omega arith) (omega arith) (OccursAt-from_part (b ∷ bytes) text 0 short whole))
      not_front (inr other) = other

-- a search by the library finds the text exactly where it is contained
pub found : (bytes text : List ℕ) (r : Option ℕ) → FindsNeedle bytes text 0 r → is_some r ≡ contains_text bytes text
found bytes text None nowhere = sym (not_contained text bytes nowhere)
found bytes text (Some k) finds = sym (contained text bytes k finds.1)
