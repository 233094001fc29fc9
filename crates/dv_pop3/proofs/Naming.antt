-- The row of a view that a set of one UID names.
use Rattle.std.proofs.Common.{◌≡◌, ◌⊎◌, inl, inr, ℕ, ◌+◌, ◌<◌, ◌≤◌, Bool, true, false, List, [], ◌∷◌, map, filter, nat_eq, refl, ap, ◌∙◌, arith}
use Rattle.std.specs.Prelude.{cond}
use Rattle.std.specs.List.{enumerate_from, list_any}
use Rattle.std.specs.List.Sorted.{IsStrictlyIncreasing}
use Rattle.std.proofs.lemmas.Bool.{eqb-true}
use Rattle.std.proofs.lemmas.Bool.Decides.{nat_tests}
use Rattle.dv_model.specs.declared.types.Shown.{Shown}
use Rattle.dv_model.specs.Sets.{is_in_set, named_by_uid, largest_uid}
use Rattle.dv_model.specs.Views.{View, shows_uid}
use Rattle.dv_model.proofs.Clients.{rising_tail}
use Rattle.dv_maildrop.specs.Maildrops.{uid_span}

-- a set of one UID has that one
pub in_set_of_one : (star uid n : ℕ) → is_in_set star (uid_span uid ∷ []) n ≡ nat_eq n uid
in_set_of_one star uid n = grind (arith, nat_tests)

abbrev kept : ℕ → ℕ × Shown → Bool
kept uid row = nat_eq row.1.uid uid

-- none of these rows, which are above it, has the UID
above_none : (uid k n : ℕ) (rows : List Shown) → uid ≤ n → IsStrictlyIncreasing (n ∷ map (λ (s : Shown). s.uid) rows) → filter (kept uid) (enumerate_from k rows) ≡ []
above_none uid k n [] low rising = refl
above_none uid k n (s ∷ rows) low rising =
    let less : n < s.uid = rising 0 (omega arith) in
    let other : nat_eq s.uid uid ≡ false = grind (arith, nat_tests) in
    rw other (above_none uid (k + 1) s.uid rows (omega (arith, less, low)) (rising_tail n (s.uid ∷ map (λ (s : Shown). s.uid) rows) rising))

-- where there is one, it is that one alone, with its number
pub record IsOne (uid : ℕ) (rows : List (ℕ × Shown)) : Type 0 where
  pub number : ℕ
  pub row : Shown
  pub is : rows ≡ (number, row) ∷ []
  pub uid_is : row.uid ≡ uid

-- of rows that are numbered from k on none is kept, and none has the UID, or one is
abbrev Kept : ℕ → ℕ → List Shown → Type 0
Kept uid k rows =
    ((list_any (λ s. nat_eq s.uid uid) rows ≡ false) × (filter (kept uid) (enumerate_from k rows) ≡ []))
    ⊎ ((list_any (λ s. nat_eq s.uid uid) rows ≡ true) × IsOne uid (filter (kept uid) (enumerate_from k rows)))

one_kept : (uid k : ℕ) (rows : List Shown) → IsStrictlyIncreasing (map (λ (s : Shown). s.uid) rows) → Kept uid k rows
one_kept uid k [] rising = inl (refl, refl)
one_kept uid k (s ∷ rows) rising = by_test (nat_eq s.uid uid) refl (one_kept uid (k + 1) rows (rising_tail s.uid (map (λ (s : Shown). s.uid) rows) rising))
  where
    by_test : (b : Bool) → nat_eq s.uid uid ≡ b → Kept uid (k + 1) rows → Kept uid k (s ∷ rows)
    by_test true e others =
        let same : s.uid ≡ uid = eqb-true s.uid uid e in
        let rest = above_none uid (k + 1) s.uid rows (omega (arith, same)) rising in
        rw e (inr (refl, record { number = k; row = s; is = ap (λ (l : List (ℕ × Shown)). (k, s) ∷ l) rest; uid_is = same }))
    by_test false e others = rw e others

-- ---- by a view

same_named : (uid : ℕ) (view : View) → named_by_uid (uid_span uid ∷ []) view ≡ filter (kept uid) (enumerate_from 1 view.rows)
same_named uid view = same_filter (enumerate_from 1 view.rows)
  where
    same_filter : (rows : List (ℕ × Shown)) → filter (λ row. is_in_set (largest_uid view) (uid_span uid ∷ []) row.1.uid) rows ≡ filter (kept uid) rows
    same_filter [] = refl
    same_filter (row ∷ rows) = rw (in_set_of_one (largest_uid view) uid row.1.uid) (ap (λ (l : List (ℕ × Shown)). cond (kept uid row) (row ∷ l) l) (same_filter rows))

-- the set names nothing where the view doesn't show the UID, and else one row
pub record NamesNone (uid : ℕ) (view : View) : Type 0 where
  pub hidden : shows_uid view uid ≡ false
  pub named : named_by_uid (uid_span uid ∷ []) view ≡ []

pub one_named : (uid : ℕ) (view : View) → IsStrictlyIncreasing (map (λ (s : Shown). s.uid) view.rows)
    → NamesNone uid view ⊎ IsOne uid (named_by_uid (uid_span uid ∷ []) view)
one_named uid view rising = by_kept (one_kept uid 1 view.rows rising)
  where
    by_kept : Kept uid 1 view.rows → NamesNone uid view ⊎ IsOne uid (named_by_uid (uid_span uid ∷ []) view)
    by_kept (inl none) = inl (record { hidden = none.0; named = same_named uid view ∙ none.1 })
    by_kept (inr one) = inr (rw (same_named uid view) one.1)
