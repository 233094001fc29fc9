-- Rows that are given in place of others.
use Rattle.std.proofs.Common.{◌≡◌, ℕ, zero, suc, ◌+◌, ◌-◌, ◌<◌, ◌≤◌, ◌^◌, Bool, true, false, cond, List, [], ◌∷◌, ◌++◌, length, get_or, drop, take, Some, None, refl, sym, ◌∙◌, ap, subst, arith, append_assoc}
use Rattle.std.proofs.lemmas.Bool.{or_parts, eqb-true, eq-eqb}
use Rattle.std.specs.Prelude.{IfSome, map, filter, find, nat_eq, nat_le, nat_lt, slice_set, unwrap_or}
use Rattle.std.specs.List.{AllByRecursion}
use Rattle.std.proofs.lemmas.Bool.Decides.{nat_tests}
use Rattle.std.proofs.lemmas.List.{append-nil, drop_all, length-map, length-take-le, take-append-drop}
use Rattle.std.proofs.Math.Seq.{drop-append_seam, take-append_seam, take-length}
use Rattle.dv_model.specs.declared.types.Fresh.{Fresh}
use Rattle.dv_model.specs.declared.types.Shown.{Shown}
use Rattle.dv_model.proofs.Clients.{Above, above_lower, above_of_rising, each_of_all, not_same, not_same_back, shows}
use Rattle.dv_view.specs.Following.{given, renewed}
use Rattle.dv_view.specs.Orders.{AreRising}
use Rattle.dv_view.proofs.Moving.{all_of_each, rising_of}
use Rattle.dv_view.proofs.Patching.{Rises, at_below, own_above}

-- ---- some of the rows that are given

pub given_above : (n : ℕ) (fresh : List Fresh) → Rises n fresh → Above n (given fresh)
given_above n [] rises = tt
given_above n (f ∷ fresh) rises = own_above n f.uid f.row (given fresh) rises.1 rises.0 (given_above (f.uid + 1) fresh rises.2)

-- a row that is given lies below those of further changes
pub above_given : (n : ℕ) (f : Fresh) (rest : List Fresh) (s : Shown) → Rises n (f ∷ rest) → f.row ≡ Some s → Above (s.uid + 1) (given rest)
above_given n f rest s rises is =
    let own : s.uid ≡ f.uid = subst (λ o. IfSome o (λ (t : Shown). t.uid ≡ f.uid)) is rises.1 in
    subst (λ u. Above (u + 1) (given rest)) (sym own) (given_above (f.uid + 1) rest rises.2)

pub filter_above : (p : Shown → Bool) (n : ℕ) (rows : List Shown) → Above n rows → Above n (filter p rows)
filter_above p n [] above = tt
filter_above p n (s ∷ rows) above = by_test (p s) (filter_above p (s.uid + 1) rows above.1)
  where
    by_test : (b : Bool) → Above (s.uid + 1) (filter p rows) → Above n (cond b (s ∷ filter p rows) (filter p rows))
    by_test true rest = (above.0, rest)
    by_test false rest = above_lower n (s.uid + 1) (filter p rows) (omega (arith, above.0)) rest

pub filter_each : (P : Shown → Type 0) (p : Shown → Bool) (rows : List Shown) → AllByRecursion P rows → AllByRecursion P (filter p rows)
filter_each P p [] each = tt
filter_each P p (s ∷ rows) each = by_test (p s) (filter_each P p rows each.1)
  where
    by_test : (b : Bool) → AllByRecursion P (filter p rows) → AllByRecursion P (cond b (s ∷ filter p rows) (filter p rows))
    by_test true rest = (each.0, rest)
    by_test false rest = rest

pub filter_rises : (p : Shown → Bool) (rows : List Shown) → AreRising rows → AreRising (filter p rows)
filter_rises p rows are = record {
  uids = rising_of 0 (filter p rows) (filter_above p 0 rows (above_of_rising rows are.uids));
  below = all_of_each (λ (s : Shown). s.uid < 2 ^ 32 - 1) (filter p rows) (filter_each (λ (s : Shown). s.uid < 2 ^ 32 - 1) p rows (each_of_all (λ (s : Shown). s.uid < 2 ^ 32 - 1) rows are.below));
}

-- ---- rows that take the place of others

pub renewed_uid : (made : List Shown) (s : Shown) → (renewed made s).uid ≡ s.uid
renewed_uid [] s = refl
renewed_uid (t ∷ made) s = by_test (nat_eq t.uid s.uid) refl (renewed_uid made s)
  where
    by_test : (b : Bool) → nat_eq t.uid s.uid ≡ b → (renewed made s).uid ≡ s.uid → (unwrap_or (cond b (Some t) (find (λ r. nat_eq r.uid s.uid) made)) s).uid ≡ s.uid
    by_test true e rest = eqb-true t.uid s.uid e
    by_test false e rest = rest

pub renewed_above : (n : ℕ) (made rows : List Shown) → Above n rows → Above n (map (renewed made) rows)
renewed_above n made [] above = tt
renewed_above n made (s ∷ rows) above =
    (subst (λ u. n ≤ u) (sym (renewed_uid made s)) above.0, subst (λ u. Above (u + 1) (map (renewed made) rows)) (sym (renewed_uid made s)) (renewed_above (s.uid + 1) made rows above.1))

renewed_below : (n : ℕ) (made rows : List Shown) → AllByRecursion (λ s. s.uid < n) rows → AllByRecursion (λ s. s.uid < n) (map (renewed made) rows)
renewed_below n made [] each = tt
renewed_below n made (s ∷ rows) each = (subst (λ u. u < n) (sym (renewed_uid made s)) each.0, renewed_below n made rows each.1)

pub renewed_rise : (made rows : List Shown) → AreRising rows → AreRising (map (renewed made) rows)
renewed_rise made rows are = record {
  uids = rising_of 0 (map (renewed made) rows) (renewed_above 0 made rows (above_of_rising rows are.uids));
  below = all_of_each (λ (s : Shown). s.uid < 2 ^ 32 - 1) (map (renewed made) rows) (renewed_below (2 ^ 32 - 1) made rows (each_of_all (λ (s : Shown). s.uid < 2 ^ 32 - 1) rows are.below));
}

renewed_none : (s : Shown) (rows : List Shown) → AllByRecursion (λ r. nat_eq s.uid r.uid ≡ false) rows → map (renewed (s ∷ [])) rows ≡ rows
renewed_none s [] each = refl
renewed_none s (r ∷ rows) each = rw each.0 (ap (λ rs. r ∷ rs) (renewed_none s rows each.1))

others_above : (n u : ℕ) (rows : List Shown) → Above n rows → u < n → AllByRecursion (λ r. nat_eq u r.uid ≡ false) rows
others_above n u [] above less = tt
others_above n u (r ∷ rows) above less = (not_same u r.uid (omega (arith, above.0, less)), others_above (r.uid + 1) u rows above.1 (omega (arith, above.0, less)))

pub set_is : (n : ℕ) (rows : List Shown) (at : ℕ) (s d : Shown) → Above n rows → at < length rows → (get_or rows at d).uid ≡ s.uid → slice_set rows at s ≡ map (renewed (s ∷ [])) rows
set_is n [] at s d above less is = absurd (omega (arith, less))
set_is n (r ∷ rows) zero s d above less is =
    let same : nat_eq s.uid r.uid ≡ true = eq-eqb s.uid r.uid (sym is) in
    rw same (ap (λ rs. s ∷ rs) (sym (renewed_none s rows (others_above (r.uid + 1) s.uid rows above.1 (omega (arith, is))))))
set_is n (r ∷ rows) (suc at) s d above less is =
    let low = past (r.uid + 1) rows at d above.1 (omega (arith, less)) in
    rw (not_same_back s.uid r.uid (omega (arith, low, is))) (ap (λ rs. r ∷ rs) (set_is (r.uid + 1) rows at s d above.1 (omega (arith, less)) is))
  where
    past : (n : ℕ) (rows : List Shown) (j : ℕ) (d : Shown) → Above n rows → j < length rows → n ≤ (get_or rows j d).uid
    past n [] j d above less = absurd (omega (arith, less))
    past n (s ∷ rows) zero d above less = above.0
    past n (s ∷ rows) (suc j) d above less = let low = past (s.uid + 1) rows j d above.1 (omega (arith, less)) in let first = above.0 in omega arith

pub set_none : (rows : List Shown) (s : Shown) → shows rows s.uid ≡ false → rows ≡ map (renewed (s ∷ [])) rows
set_none rows s none = sym (renewed_none s rows (each_other rows none))
  where
    swap : (a b : ℕ) → nat_eq a b ≡ false → nat_eq b a ≡ false
    swap a b e = grind (arith, nat_tests, e)

    each_other : (rows : List Shown) → shows rows s.uid ≡ false → AllByRecursion (λ r. nat_eq s.uid r.uid ≡ false) rows
    each_other [] none = tt
    each_other (r ∷ rows) none =
        let parts = or_parts (nat_eq r.uid s.uid) (shows rows s.uid) none in
        (swap r.uid s.uid parts.0, each_other rows parts.1)

pub renewed_by_none : (rows : List Shown) → map (renewed []) rows ≡ rows
renewed_by_none [] = refl
renewed_by_none (s ∷ rows) = ap (λ rs. s ∷ rs) (renewed_by_none rows)

-- a choice by UID is the same before and behind
pub filter_renewed : (p : ℕ → Bool) (made rows : List Shown) → filter (λ s. p s.uid) (map (renewed made) rows) ≡ map (renewed made) (filter (λ s. p s.uid) rows)
filter_renewed p made [] = refl
filter_renewed p made (s ∷ rows) =
    ap (λ b. cond b (renewed made s ∷ filter (λ t. p t.uid) (map (renewed made) rows)) (filter (λ t. p t.uid) (map (renewed made) rows))) (ap p (renewed_uid made s))
    ∙ by_test (p s.uid) (filter_renewed p made rows)
  where
    by_test : (b : Bool) → filter (λ t. p t.uid) (map (renewed made) rows) ≡ map (renewed made) (filter (λ t. p t.uid) rows)
        → cond b (renewed made s ∷ filter (λ t. p t.uid) (map (renewed made) rows)) (filter (λ t. p t.uid) (map (renewed made) rows)) ≡ map (renewed made) (cond b (s ∷ filter (λ t. p t.uid) rows) (filter (λ t. p t.uid) rows))
    by_test true rest = ap (λ rs. renewed made s ∷ rs) rest
    by_test false rest = rest

-- ---- one after another

-- the first one and then others above it
renewed_first : (s : Shown) (made : List Shown) (r : Shown) → Above (s.uid + 1) made → renewed (s ∷ made) r ≡ renewed made (renewed (s ∷ []) r)
renewed_first s made r above = by_test (nat_eq s.uid r.uid)
  where
    by_test : (b : Bool) → unwrap_or (cond b (Some s) (find (λ t. nat_eq t.uid r.uid) made)) r ≡ renewed made (unwrap_or (cond b (Some s) None) r)
    by_test true = sym (ap (λ o. unwrap_or o s) (at_below (s.uid + 1) s.uid made above (omega arith)))
    by_test false = refl

renewed_firsts : (s : Shown) (made rows : List Shown) → Above (s.uid + 1) made → map (renewed (s ∷ made)) rows ≡ map (renewed made) (map (renewed (s ∷ [])) rows)
renewed_firsts s made [] above = refl
renewed_firsts s made (r ∷ rows) above = ap (λ t. t ∷ map (renewed (s ∷ made)) rows) (renewed_first s made r above) ∙ ap (λ rs. renewed made (renewed (s ∷ []) r) ∷ rs) (renewed_firsts s made rows above)

-- the rows behind some that are given: those below a UID are put among the first so many, and the others behind all
abbrev pub rows_put : ℕ → ℕ → List Shown → List Shown → List Shown
rows_put b count rows made = map (renewed (filter (λ s. nat_lt s.uid b) made)) (take count rows) ++ (drop count rows ++ filter (λ s. nat_le b s.uid) made)

put_among : (p : Shown → Bool) (s : Shown) (made rows : List Shown) → Above (s.uid + 1) made
    → map (renewed (filter p made)) (map (renewed (filter p (s ∷ []))) rows) ≡ map (renewed (filter p (s ∷ made))) rows
put_among p s made rows above = by_test (p s)
  where
    by_test : (b : Bool) → map (renewed (filter p made)) (map (renewed (cond b (s ∷ []) [])) rows) ≡ map (renewed (cond b (s ∷ filter p made) (filter p made))) rows
    by_test true = sym (renewed_firsts s (filter p made) rows (filter_above p (s.uid + 1) made above))
    by_test false = ap (map (renewed (filter p made))) (renewed_by_none rows)

put_behind : (p : Shown → Bool) (s : Shown) (made rows : List Shown) → (rows ++ filter p (s ∷ [])) ++ filter p made ≡ rows ++ filter p (s ∷ made)
put_behind p s made rows = append_assoc rows (filter p (s ∷ [])) (filter p made) ∙ ap (λ rs. rows ++ rs) (by_test (p s))
  where
    by_test : (b : Bool) → cond b (s ∷ []) [] ++ filter p made ≡ cond b (s ∷ filter p made) (filter p made)
    by_test true = refl
    by_test false = refl

module _ (b count : ℕ) (rows : List Shown) (inside : count ≤ length rows) where
  pub front_put : (made : List Shown) → take count (rows_put b count rows made) ≡ map (renewed (filter (λ s. nat_lt s.uid b) made)) (take count rows)
  front_put made =
      let front = map (renewed (filter (λ s. nat_lt s.uid b) made)) (take count rows) in
      let long : length front ≡ count = length-map (take count rows) (renewed (filter (λ s. nat_lt s.uid b) made)) ∙ length-take-le count rows inside in
      ap (λ n. take n (rows_put b count rows made)) (sym long) ∙ take-append_seam front (drop count rows ++ filter (λ s. nat_le b s.uid) made)

  back_put : (made : List Shown) → drop count (rows_put b count rows made) ≡ drop count rows ++ filter (λ s. nat_le b s.uid) made
  back_put made =
      let front = map (renewed (filter (λ s. nat_lt s.uid b) made)) (take count rows) in
      let long : length front ≡ count = length-map (take count rows) (renewed (filter (λ s. nat_lt s.uid b) made)) ∙ length-take-le count rows inside in
      ap (λ n. drop n (rows_put b count rows made)) (sym long) ∙ drop-append_seam front (drop count rows ++ filter (λ s. nat_le b s.uid) made)

  pub put_more : (s : Shown) (made : List Shown) → Above (s.uid + 1) made → rows_put b count (rows_put b count rows (s ∷ [])) made ≡ rows_put b count rows (s ∷ made)
  put_more s made above =
      let low = λ (t : Shown). nat_lt t.uid b in
      let high = λ (t : Shown). nat_le b t.uid in
      ap (λ rs. map (renewed (filter low made)) rs ++ (drop count (rows_put b count rows (s ∷ [])) ++ filter high made)) (front_put (s ∷ []))
      ∙ ap (λ rs. map (renewed (filter low made)) (map (renewed (filter low (s ∷ []))) (take count rows)) ++ (rs ++ filter high made)) (back_put (s ∷ []))
      ∙ ap (λ rs. rs ++ ((drop count rows ++ filter high (s ∷ [])) ++ filter high made)) (put_among low s made (take count rows) above)
      ∙ ap (λ rs. map (renewed (filter low (s ∷ made))) (take count rows) ++ rs) (put_behind high s made (drop count rows))

-- none is given
pub put_none : (b count : ℕ) (rows : List Shown) → rows_put b count rows [] ≡ rows
put_none b count rows =
    ap (λ rs. rs ++ (drop count rows ++ [])) (renewed_by_none (take count rows)) ∙ ap (λ rs. take count rows ++ rs) (append-nil (drop count rows)) ∙ take-append-drop count rows

-- those below the UID are put among all rows
pub put_whole : (b count : ℕ) (rows made : List Shown) → count ≡ length rows
    → rows_put b count rows made ≡ map (renewed (filter (λ s. nat_lt s.uid b) made)) rows ++ filter (λ s. nat_le b s.uid) made
put_whole b count rows made all =
    ap (λ n. rows_put b n rows made) all
    ∙ ap (λ rs. map (renewed (filter (λ s. nat_lt s.uid b) made)) rs ++ (drop (length rows) rows ++ filter (λ s. nat_le b s.uid) made)) (take-length rows)
    ∙ ap (λ rs. map (renewed (filter (λ s. nat_lt s.uid b) made)) rows ++ (rs ++ filter (λ s. nat_le b s.uid) made)) (drop_all (length rows) rows (omega arith))
