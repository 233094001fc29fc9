-- What is found at a place of a list, or isn't in it.
use Rattle.std.proofs.Common.{◌≡◌, ◌⊎◌, inl, inr, ℕ, zero, suc, ◌<◌, ◌≤◌, Bool, true, false, cond, ◌||◌, ltb, List, [], ◌∷◌, length, get_or, Option, Some, None, refl, sym, ◌∙◌, ap, subst, arith}
use Rattle.std.specs.Prelude.{find, position, is_some, nat_eq, slice_get}
use Rattle.std.specs.List.{list_any, position_or_len}
use Rattle.std.proofs.lemmas.Bool.{cases_lt, lt-ltb, le-ltb, or_right}
use Rattle.std.proofs.lemmas.Bool.Decides.{nat_tests}
use Rattle.std.proofs.lemmas.List.Folds.{find_at, list_any_at}
use Rattle.std.proofs.lemmas.List.Quantifiers.{position-Some}
use Rattle.std.proofs.lemmas.Option.{slice_get_past}
use Rattle.dv_model.specs.declared.types.Shown.{Shown}
use Rattle.dv_model.specs.Views.{same_row}
use Rattle.dv_model.proofs.Clients.{above_of_rising, IsOne, only_one, found_one, same_parts, false_is_not_true}
use Rattle.dv_view.specs.Orders.{AreRising}

module _ {X : Type 0} (p : X → Bool) where
  -- a first place, or none
  first_by : (xs : List X) (n : ℕ) → position_or_len p xs ≡ n → (n < length xs) ⊎ (length xs ≤ n) → (o : Option ℕ) → position p xs ≡ o → ((n < length xs) × (o ≡ Some n)) ⊎ ((length xs ≤ n) × (o ≡ None))
  first_by xs n is (inl less) o e = inl (less, sym e ∙ ap (λ k. cond (ltb k (length xs)) (Some k) None) is ∙ ap (λ b. cond b (Some n) None) (lt-ltb n (length xs) less))
  first_by xs n is (inr more) o e = inr (more, sym e ∙ ap (λ k. cond (ltb k (length xs)) (Some k) None) is ∙ ap (λ b. cond b (Some n) None) (le-ltb n (length xs) more))

  first : (xs : List X) (o : Option ℕ) → position p xs ≡ o → ((position_or_len p xs < length xs) × (o ≡ Some (position_or_len p xs))) ⊎ ((length xs ≤ position_or_len p xs) × (o ≡ None))
  first xs o e = first_by xs (position_or_len p xs) refl (cases_lt (position_or_len p xs) (length xs)) o e

  pub found_at : (xs : List X) (k : ℕ) (x : X) → position p xs ≡ Some k → slice_get xs k ≡ Some x → find p xs ≡ Some x
  found_at xs k x at is =
      elim (first xs (Some k) at) [
        | inl less ↦ let same : Some k ≡ Some (position_or_len p xs) = less.1 in let number : k ≡ position_or_len p xs = cc in find_at p xs ∙ ap (slice_get xs) (sym number) ∙ is
        | inr more ↦ let never : Some k ≡ None = more.1 in absurd cc
      ]

  pub found_nowhere : (xs : List X) → position p xs ≡ None → find p xs ≡ None
  found_nowhere xs at =
      elim (first xs None at) [
        | inl less ↦ let never : None ≡ Some (position_or_len p xs) = less.1 in absurd cc
        | inr more ↦ find_at p xs ∙ slice_get_past xs (position_or_len p xs) more.0
      ]

  some_found : (x : X) (o : Option X) (b : Bool) → is_some (cond b (Some x) o) ≡ (b || is_some o)
  some_found x o true = refl
  some_found x o false = refl

  pub any_is_found : (xs : List X) → list_any p xs ≡ is_some (find p xs)
  any_is_found [] = refl
  any_is_found (x ∷ xs) = ap (λ b. p x || b) (any_is_found xs) ∙ sym (some_found x (find p xs) (p x))

  -- some item passes where there is a first one
  pub any_by_place : (xs : List X) (o : Option ℕ) → position p xs ≡ o → list_any p xs ≡ is_some o
  any_by_place xs (Some k) at = list_any_at_first xs k at
    where
      list_any_at_first : (xs : List X) (k : ℕ) → position p xs ≡ Some k → list_any p xs ≡ true
      list_any_at_first [] k e = absurd cc
      list_any_at_first (x ∷ xs) k e = let at = position-Some p (x ∷ xs) k x e in list_any_at p (x ∷ xs) k x at.0 at.1
  any_by_place xs None at = any_is_found xs ∙ ap is_some (found_nowhere xs at)

-- ---- a row as it was

one_at : (rows : List Shown) (k : ℕ) (d : Shown) → k < length rows → IsOne (get_or rows k d) rows
one_at [] k d less = absurd (omega (arith, less))
one_at (s ∷ rows) zero d less = inl refl
one_at (s ∷ rows) (suc k) d less = inr (one_at rows k d (omega (arith, less)))

same_uid : (s o : Shown) → same_row s o ≡ true → nat_eq o.uid s.uid ≡ true
same_uid s o e = let parts = same_parts s o e in let uid : s.uid ≡ o.uid = parts.0 in grind (arith, nat_tests, uid)

module _ (rows : List Shown) (s : Shown) where
  -- no row has the UID
  pub same_none : list_any (λ o. nat_eq o.uid s.uid) rows ≡ false → list_any (same_row s) rows ≡ false
  same_none none = by_test (list_any (same_row s) rows) refl
    where
      by_test : (b : Bool) → list_any (same_row s) rows ≡ b → b ≡ false
      by_test false e = refl
      by_test true e =
          let found = found_one (same_row s) rows e in
          false_is_not_true (sym none ∙ any_one rows found.0 found.1 (same_uid s found.0 found.2))
        where
          any_one : (rows : List Shown) (o : Shown) → IsOne o rows → nat_eq o.uid s.uid ≡ true → list_any (λ t. nat_eq t.uid s.uid) rows ≡ true
          any_one [] o one test = absurd one
          any_one (x ∷ rows) o (inl is) test = ap (λ (t : Shown). nat_eq t.uid s.uid || list_any (λ t. nat_eq t.uid s.uid) rows) (sym is) ∙ ap (λ b. b || list_any (λ t. nat_eq t.uid s.uid) rows) test
          any_one (x ∷ rows) o (inr one) test = ap (λ b. nat_eq x.uid s.uid || b) (any_one rows o one test) ∙ or_right (nat_eq x.uid s.uid) true refl

  -- the row at this place has the UID: it alone can be the same
  pub same_at : AreRising rows → (k : ℕ) (o : Shown) → k < length rows → o ≡ get_or rows k o → o.uid ≡ s.uid → list_any (same_row s) rows ≡ same_row s o
  same_at are k o less is uid = by_test (same_row s o) refl
    where
      by_other : (b : Bool) → list_any (same_row s) rows ≡ b → same_row s o ≡ false → b ≡ false
      by_other false e other = refl
      by_other true e other =
          let found = found_one (same_row s) rows e in
          let parts = same_parts s found.0 found.2 in
          let alike : found.0 ≡ o = only_one 0 rows found.0 o (above_of_rising rows are.uids) found.1 (subst (λ t. IsOne t rows) (sym is) (one_at rows k o less)) (sym parts.0 ∙ sym uid) in
          false_is_not_true (sym other ∙ ap (same_row s) (sym alike) ∙ found.2)

      by_test : (b : Bool) → same_row s o ≡ b → list_any (same_row s) rows ≡ b
      by_test true e = list_any_at (same_row s) rows k o less (ap (same_row s) (sym is) ∙ e)
      by_test false e = by_other (list_any (same_row s) rows) refl e
