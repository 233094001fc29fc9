-- Rows by rising UID, and the one of a UID: of any kind of row.
use Rattle.std.proofs.Common.{◌≡◌, ◌⊎◌, inl, inr, ℕ, ◌+◌, ◌-◌, ◌<◌, ◌≤◌, Bool, true, false, cond, not, List, [], ◌∷◌, drop, get_or, length, Some, None, Option, refl, sym, ◌∙◌, ap, subst, arith}
use Rattle.std.specs.Prelude.{filter, find, map, nat_eq}
use Rattle.std.specs.List.Sorted.{IsStrictlyIncreasing}
use Rattle.std.proofs.lemmas.Bool.{cases_lt, eqb-true, eq-eqb}
use Rattle.std.proofs.lemmas.List.{drop_more}
use Rattle.dv_model.proofs.Clients.{not_same_back, rising_tail}

module _ {X : Type 0} (uid : X → ℕ) where
  abbrev pub row_at : ℕ → List X → Option X
  row_at u rows = find (λ x. nat_eq (uid x) u) rows

  -- the UIDs rise, from n on
  abbrev pub Above : ℕ → List X → Type 0
  Above n [] = Unit {0}
  Above n (x ∷ xs) = (n ≤ uid x) × Above (uid x + 1) xs

  pub above_lower : (k n : ℕ) (rows : List X) → k ≤ n → Above n rows → Above k rows
  above_lower k n [] le above = tt
  above_lower k n (x ∷ xs) le above = (omega (arith, above.0, le), above.1)

  above_behind : (first : X) (rest : List X) → IsStrictlyIncreasing (map uid (first ∷ rest)) → Above (uid first + 1) rest
  above_behind first [] up = tt
  above_behind first (next ∷ rest) up =
      let step = up 0 (omega arith) in (omega (arith, step), above_behind next rest (rising_tail (uid first) (map uid (next ∷ rest)) up))

  pub above_of_rising : (rows : List X) → IsStrictlyIncreasing (map uid rows) → Above 0 rows
  above_of_rising [] rising = tt
  above_of_rising (x ∷ rows) rising = (omega arith, above_behind x rows rising)

  -- ---- the row of a UID

  pub at_below : (n u : ℕ) (rows : List X) → Above n rows → u < n → row_at u rows ≡ None
  at_below n u [] above less = refl
  at_below n u (x ∷ rows) above less = rw (not_same_back (uid x) u (omega (arith, above.0, less))) (at_below (uid x + 1) u rows above.1 (omega (arith, above.0, less)))

  pub at_head : (x : X) (rows : List X) → row_at (uid x) (x ∷ rows) ≡ Some x
  at_head x rows = rw (eq-eqb (uid x) (uid x) refl) refl

  pub at_tail : (x : X) (rows : List X) (u : ℕ) → nat_eq (uid x) u ≡ false → row_at u (x ∷ rows) ≡ row_at u rows
  at_tail x rows u e = rw e refl

  -- rows by rising UID are the same where each UID has the same row
  pub same_rows : (n : ℕ) (xs ys : List X) → Above n xs → Above n ys → ((u : ℕ) → row_at u xs ≡ row_at u ys) → xs ≡ ys
  same_rows n [] [] up down same = refl
  same_rows n [] (y ∷ ys) up down same = let e : None ≡ Some y = same (uid y) ∙ at_head y ys in absurd cc
  same_rows n (x ∷ xs) [] up down same = let e : Some x ≡ None = sym (at_head x xs) ∙ same (uid x) in absurd cc
  same_rows n (x ∷ xs) (y ∷ ys) up down same = by_order (cases_lt (uid x) (uid y)) (cases_lt (uid y) (uid x)) (λ above others. same_rows (uid x + 1) xs ys up.1 above others)
    where
      by_order : (uid x < uid y) ⊎ (uid y ≤ uid x) → (uid y < uid x) ⊎ (uid x ≤ uid y) → (Above (uid x + 1) ys → ((u : ℕ) → row_at u xs ≡ row_at u ys) → xs ≡ ys) → x ∷ xs ≡ y ∷ ys
      by_order (inl less) o rest = let e : Some x ≡ None = sym (at_head x xs) ∙ same (uid x) ∙ at_below (uid y) (uid x) (y ∷ ys) (omega arith, down.1) less in absurd cc
      by_order (inr le) (inl less) rest = let e : Some y ≡ None = sym (at_head y ys) ∙ sym (same (uid y)) ∙ at_below (uid x) (uid y) (x ∷ xs) (omega arith, up.1) less in absurd cc
      by_order (inr le) (inr more) rest =
          let one : uid x ≡ uid y = omega arith in
          let head : Some x ≡ Some y = sym (at_head x xs) ∙ same (uid x) ∙ ap (λ u. row_at u (y ∷ ys)) one ∙ at_head y ys in
          let is : x ≡ y = cc in
          ap (λ s. s ∷ xs) is ∙ ap (λ rows. y ∷ rows) (rest (subst (λ u. Above (u + 1) ys) (sym one) down.1) (λ u. by_test u (nat_eq (uid x) u) refl one))
        where
          by_test : (u : ℕ) (b : Bool) → nat_eq (uid x) u ≡ b → uid x ≡ uid y → row_at u xs ≡ row_at u ys
          by_test u true e one =
              let at : uid x ≡ u = eqb-true (uid x) u e in
              at_below (uid x + 1) u xs up.1 (omega arith) ∙ sym (at_below (uid y + 1) u ys down.1 (omega arith))
          by_test u false e one = sym (at_tail x xs u e) ∙ same u ∙ at_tail y ys u (ap (λ v. nat_eq v u) (sym one) ∙ e)

  -- ---- some rows leave

  module _ (test : ℕ → Bool) where
    abbrev pub staying : List X → List X
    staying rows = filter (λ x. not (test (uid x))) rows

    pub staying_above : (n : ℕ) (rows : List X) → Above n rows → Above n (staying rows)
    staying_above n [] above = tt
    staying_above n (x ∷ rows) above = by_test (test (uid x)) (staying_above (uid x + 1) rows above.1)
      where
        by_test : (b : Bool) → Above (uid x + 1) (staying rows) → Above n (cond (not b) (x ∷ staying rows) (staying rows))
        by_test true others = above_lower n (uid x + 1) (staying rows) (omega (arith, above.0)) others
        by_test false others = (above.0, others)

    pub staying_at : (u : ℕ) (rows : List X) → row_at u (staying rows) ≡ cond (test u) None (row_at u rows)
    staying_at u [] = by_test (test u)
      where
        by_test : (b : Bool) → ◌≡◌ {A = Option X} None (cond b None None)
        by_test true = refl
        by_test false = refl
    staying_at u (x ∷ rows) = by_test (test (uid x)) refl (nat_eq (uid x) u) refl (staying_at u rows)
      where
        by_test : (b : Bool) → test (uid x) ≡ b → (c : Bool) → nat_eq (uid x) u ≡ c → row_at u (staying rows) ≡ cond (test u) None (row_at u rows)
            → row_at u (cond (not b) (x ∷ staying rows) (staying rows)) ≡ cond (test u) None (cond c (Some x) (row_at u rows))
        by_test true e true f rest =
            let there : test u ≡ true = ap test (sym (eqb-true (uid x) u f)) ∙ e in
            rest ∙ ap (λ b. cond b None (row_at u rows)) there ∙ ap (λ b. cond b None (Some x)) (sym there)
        by_test true e false f rest = rest
        by_test false e true f rest =
            let there : test u ≡ false = ap test (sym (eqb-true (uid x) u f)) ∙ e in
            ap (λ c. cond c (Some x) (row_at u (staying rows))) f ∙ ap (λ b. cond b None (Some x)) (sym there)
        by_test false e false f rest = ap (λ c. cond c (Some x) (row_at u (staying rows))) f ∙ rest

  -- ---- whether there is one

  pub any_at : (u : ℕ) (rows : List X) → row_at u rows ≡ None ⊎ ((x : X) × (row_at u rows ≡ Some x))
  any_at u rows = by_row (row_at u rows) refl
    where
      by_row : (o : Option X) → row_at u rows ≡ o → row_at u rows ≡ None ⊎ ((x : X) × (row_at u rows ≡ Some x))
      by_row None e = inl e
      by_row (Some x) e = inr (x, e)

-- ---- rows that are gone through from the last one

pub taken_back : {X : Type 0} (rows : List X) (left : ℕ) (x : X) (behind : List X) → 0 < left → left ≤ length rows → x ≡ get_or rows (left - 1) x → behind ≡ drop left rows → x ∷ behind ≡ drop (left - 1) rows
taken_back rows left x behind some inside at is =
    let next : left - 1 + 1 ≡ left = omega arith in
    ap (λ ys. x ∷ ys) is
    ∙ ap (λ y. y ∷ drop left rows) at
    ∙ sym (drop_more rows (left - 1) x (omega arith) ∙ ap (λ n. get_or rows (left - 1) x ∷ drop n rows) next)
