-- Rows by rising UID and the one of a UID, also where changes are put among them.
use Rattle.std.proofs.Common.{◌≡◌, ◌⊎◌, inl, inr, ℕ, ◌+◌, ◌<◌, ◌≤◌, Bool, true, false, cond, List, [], ◌∷◌, ◌++◌, Some, None, Option, refl, sym, ◌∙◌, ap, subst, arith}
use Rattle.std.specs.Prelude.{IfSome, find, nat_eq, nat_lt, option_to_list}
use Rattle.std.proofs.lemmas.Bool.{cases_lt, eqb-true, eq-eqb}
use Rattle.std.proofs.lemmas.Bool.Decides.{nat_tests}
use Rattle.std.proofs.lemmas.List.{append-nil}
use Rattle.dv_model.specs.declared.types.Fresh.{Fresh}
use Rattle.dv_model.specs.declared.types.Shown.{Shown}
use Rattle.dv_model.specs.Fresh.{patched, with_fresh}
use Rattle.dv_model.proofs.Clients.{Above, above_lower, not_same_back}

-- ---- the row of a UID

abbrev pub at_uid : ℕ → List Shown → Option Shown
at_uid u rows = find (λ s. nat_eq s.uid u) rows

pub at_below : (n u : ℕ) (rows : List Shown) → Above n rows → u < n → at_uid u rows ≡ None
at_below n u [] above less = refl
at_below n u (s ∷ rows) above less = rw (not_same_back s.uid u (omega (arith, above.0, less))) (at_below (s.uid + 1) u rows above.1 (omega (arith, above.0, less)))

at_head : (s : Shown) (rows : List Shown) → at_uid s.uid (s ∷ rows) ≡ Some s
at_head s rows = rw (eq-eqb s.uid s.uid refl) refl

at_tail : (s : Shown) (rows : List Shown) (u : ℕ) → nat_eq s.uid u ≡ false → at_uid u (s ∷ rows) ≡ at_uid u rows
at_tail s rows u e = rw e refl

-- rows by rising UID are the same where each UID has the same row
pub same_rows : (n : ℕ) (xs ys : List Shown) → Above n xs → Above n ys → ((u : ℕ) → at_uid u xs ≡ at_uid u ys) → xs ≡ ys
same_rows n [] [] up down same = refl
same_rows n [] (y ∷ ys) up down same = let e : None ≡ Some y = same y.uid ∙ at_head y ys in absurd cc
same_rows n (x ∷ xs) [] up down same = let e : Some x ≡ None = sym (at_head x xs) ∙ same x.uid in absurd cc
same_rows n (x ∷ xs) (y ∷ ys) up down same = by_order (cases_lt x.uid y.uid) (cases_lt y.uid x.uid) (λ above others. same_rows (x.uid + 1) xs ys up.1 above others)
  where
    by_order : (x.uid < y.uid) ⊎ (y.uid ≤ x.uid) → (y.uid < x.uid) ⊎ (x.uid ≤ y.uid) → (Above (x.uid + 1) ys → ((u : ℕ) → at_uid u xs ≡ at_uid u ys) → xs ≡ ys) → x ∷ xs ≡ y ∷ ys
    by_order (inl less) o rest = let e : Some x ≡ None = sym (at_head x xs) ∙ same x.uid ∙ at_below y.uid x.uid (y ∷ ys) (omega arith, down.1) less in absurd cc
    by_order (inr le) (inl less) rest = let e : Some y ≡ None = sym (at_head y ys) ∙ sym (same y.uid) ∙ at_below x.uid y.uid (x ∷ xs) (omega arith, up.1) less in absurd cc
    by_order (inr le) (inr more) rest =
        let uid : x.uid ≡ y.uid = omega arith in
        let head : Some x ≡ Some y = sym (at_head x xs) ∙ same x.uid ∙ ap (λ u. at_uid u (y ∷ ys)) uid ∙ at_head y ys in
        let is : x ≡ y = cc in
        ap (λ s. s ∷ xs) is ∙ ap (λ rows. y ∷ rows) (rest (subst (λ u. Above (u + 1) ys) (sym uid) down.1) (λ u. by_test u (nat_eq x.uid u) refl uid))
      where
        by_test : (u : ℕ) (b : Bool) → nat_eq x.uid u ≡ b → x.uid ≡ y.uid → at_uid u xs ≡ at_uid u ys
        by_test u true e uid =
            let at : x.uid ≡ u = eqb-true x.uid u e in
            at_below (x.uid + 1) u xs up.1 (omega arith) ∙ sym (at_below (y.uid + 1) u ys down.1 (omega arith))
        by_test u false e uid = sym (at_tail x xs u e) ∙ same u ∙ at_tail y ys u (ap (λ v. nat_eq v u) (sym uid) ∙ e)

-- ---- one change

abbrev pub Own : ℕ → Option Shown → Type 0
Own uid row = IfSome row (λ s. s.uid ≡ uid)

pub own_same : (u uid : ℕ) (row : Option Shown) (rows : List Shown) → Own uid row → uid ≡ u → at_uid u rows ≡ None → at_uid u (option_to_list row ++ rows) ≡ row
own_same u uid None rows own same none = none
own_same u uid (Some s) rows own same none = rw (eq-eqb s.uid u (own ∙ same)) refl

pub own_other : (u uid : ℕ) (row : Option Shown) (rows : List Shown) → Own uid row → nat_eq uid u ≡ false → at_uid u (option_to_list row ++ rows) ≡ at_uid u rows
own_other u uid None rows own other = refl
own_other u uid (Some s) rows own other = at_tail s rows u (ap (λ v. nat_eq v u) own ∙ other)

pub own_above : (n uid : ℕ) (row : Option Shown) (rows : List Shown) → Own uid row → n ≤ uid → Above (uid + 1) rows → Above n (option_to_list row ++ rows)
own_above n uid None rows own le above = above_lower n (uid + 1) rows (omega arith) above
own_above n uid (Some s) rows own le above = (omega (arith, own), subst (λ v. Above (v + 1) rows) (sym own) above)

abbrev change : ℕ → Option Shown → Fresh
change uid row = record { uid = uid; row = row }

module _ (uid : ℕ) (row : Option Shown) (own : Own uid row) where
  pub with_above : (n : ℕ) (rows : List Shown) → n ≤ uid → Above n rows → Above n (with_fresh rows (change uid row))
  with_above n [] le above = subst (Above n) (append-nil (option_to_list row)) (own_above n uid row [] own le tt)
  with_above n (s ∷ rows) le above = by_less (nat_lt s.uid uid) refl (nat_eq s.uid uid) refl (λ more. with_above (s.uid + 1) rows more above.1)
    where
      by_less : (b : Bool) → nat_lt s.uid uid ≡ b → (c : Bool) → nat_eq s.uid uid ≡ c → (s.uid + 1 ≤ uid → Above (s.uid + 1) (with_fresh rows (change uid row)))
          → Above n (cond b (s ∷ with_fresh rows (change uid row)) (cond c (option_to_list row ++ rows) (option_to_list row ++ s ∷ rows)))
      by_less true e c f rest = (above.0, rest (grind (arith, nat_tests, e)))
      by_less false e true f rest = let same : s.uid ≡ uid = eqb-true s.uid uid f in own_above n uid row rows own le (subst (λ u. Above (u + 1) rows) same above.1)
      by_less false e false f rest = own_above n uid row (s ∷ rows) own le (grind (arith, nat_tests, e, f), above.1)

  pub with_at : (n u : ℕ) (rows : List Shown) → Above n rows → at_uid u (with_fresh rows (change uid row)) ≡ cond (nat_eq uid u) row (at_uid u rows)
  with_at n u [] above = ap (at_uid u) (sym (append-nil (option_to_list row))) ∙ by_same (nat_eq uid u) refl
    where
      by_same : (b : Bool) → nat_eq uid u ≡ b → at_uid u (option_to_list row ++ []) ≡ cond b row None
      by_same true e = own_same u uid row [] own (eqb-true uid u e) refl
      by_same false e = own_other u uid row [] own e
  with_at n u (s ∷ rows) above = by_less (nat_lt s.uid uid) refl (nat_eq s.uid uid) refl (with_at (s.uid + 1) u rows above.1)
    where
      by_head : (b : Bool) → nat_eq s.uid u ≡ b → s.uid < uid → cond b (Some s) (cond (nat_eq uid u) row (at_uid u rows)) ≡ cond (nat_eq uid u) row (cond b (Some s) (at_uid u rows))
      by_head true e less = let at : s.uid ≡ u = eqb-true s.uid u e in sym (ap (λ c. cond c row (Some s)) (not_same_back uid u (omega arith)))
      by_head false e less = refl

      by_same : (b : Bool) → nat_eq uid u ≡ b → (rest : List Shown) → Above (uid + 1) rest → at_uid u (option_to_list row ++ rest) ≡ cond b row (at_uid u rest)
      by_same true e rest up = let at : uid ≡ u = eqb-true uid u e in own_same u uid row rest own at (at_below (uid + 1) u rest up (omega arith))
      by_same false e rest up = own_other u uid row rest own e

      by_skip : (b : Bool) → nat_eq uid u ≡ b → s.uid ≡ uid → cond b row (at_uid u rows) ≡ cond b row (at_uid u (s ∷ rows))
      by_skip true e same = refl
      by_skip false e same = sym (at_tail s rows u (ap (λ v. nat_eq v u) same ∙ e))

      by_less : (b : Bool) → nat_lt s.uid uid ≡ b → (c : Bool) → nat_eq s.uid uid ≡ c → at_uid u (with_fresh rows (change uid row)) ≡ cond (nat_eq uid u) row (at_uid u rows)
          → at_uid u (cond b (s ∷ with_fresh rows (change uid row)) (cond c (option_to_list row ++ rows) (option_to_list row ++ s ∷ rows))) ≡ cond (nat_eq uid u) row (at_uid u (s ∷ rows))
      by_less true e c f rest = ap (λ o. cond (nat_eq s.uid u) (Some s) o) rest ∙ by_head (nat_eq s.uid u) refl (grind (arith, nat_tests, e))
      by_less false e true f rest = let same : s.uid ≡ uid = eqb-true s.uid uid f in by_same (nat_eq uid u) refl rows (subst (λ v. Above (v + 1) rows) same above.1) ∙ by_skip (nat_eq uid u) refl same
      by_less false e false f rest = by_same (nat_eq uid u) refl (s ∷ rows) (grind (arith, nat_tests, e, f), above.1)

-- ---- all changes

-- the UIDs rise, from n on, and each row is of the UID beside it
abbrev pub Rises : ℕ → List Fresh → Type 0
Rises n [] = Unit {0}
Rises n (f ∷ fresh) = (n ≤ f.uid) × IfSome f.row (λ s. s.uid ≡ f.uid) × Rises (f.uid + 1) fresh

abbrev pub change_of : ℕ → List Fresh → Option Fresh
change_of u fresh = find (λ f. nat_eq f.uid u) fresh

-- what is there of a UID behind the changes
abbrev pub now : Option Fresh → Option Shown → Option Shown
now (Some f) before = f.row
now None before = before

pub no_change : (n u : ℕ) (fresh : List Fresh) → Rises n fresh → u < n → change_of u fresh ≡ None
no_change n u [] rises less = refl
no_change n u (f ∷ fresh) rises less = rw (not_same_back f.uid u (omega (arith, rises.0, less))) (no_change (f.uid + 1) u fresh rises.2 (omega (arith, rises.0, less)))

pub rises_lower : (k n : ℕ) (fresh : List Fresh) → k ≤ n → Rises n fresh → Rises k fresh
rises_lower k n [] le rises = tt
rises_lower k n (f ∷ fresh) le rises = (omega (arith, rises.0, le), rises.1, rises.2)

pub patched_above : (n : ℕ) (rows : List Shown) (fresh : List Fresh) → Above n rows → Rises n fresh → Above n (patched rows fresh)
patched_above n rows [] above rises = above
patched_above n rows (f ∷ fresh) above rises =
    patched_above n (with_fresh rows f) fresh (with_above f.uid f.row rises.1 n rows rises.0 above) (rises_lower n (f.uid + 1) fresh (omega (arith, rises.0)) rises.2)

pub patched_at : (n m u : ℕ) (rows : List Shown) (fresh : List Fresh) → Above n rows → n ≤ m → Rises m fresh → at_uid u (patched rows fresh) ≡ now (change_of u fresh) (at_uid u rows)
patched_at n m u rows [] above le rises = refl
patched_at n m u rows (f ∷ fresh) above le rises =
    patched_at n (f.uid + 1) u (with_fresh rows f) fresh (with_above f.uid f.row rises.1 n rows (omega (arith, rises.0, le)) above) (omega (arith, rises.0, le)) rises.2
    ∙ ap (now (change_of u fresh)) (with_at f.uid f.row rises.1 n u rows above)
    ∙ by_test (nat_eq f.uid u) refl
  where
    by_test : (b : Bool) → nat_eq f.uid u ≡ b → now (change_of u fresh) (cond b f.row (at_uid u rows)) ≡ now (cond b (Some f) (change_of u fresh)) (at_uid u rows)
    by_test true e = let same : f.uid ≡ u = eqb-true f.uid u e in ap (λ o. now o f.row) (no_change (f.uid + 1) u fresh rises.2 (omega arith))
    by_test false e = refl
