-- A client that hears what is said of a move has the view, and what a move keeps of each row.
use Rattle.std.proofs.Common.{◌≡◌, ◌⊎◌, inl, inr, ℕ, zero, suc, ◌+◌, ◌-◌, ◌<◌, ◌≤◌, Bool, true, false, cond, not, ◌&&◌, ◌||◌, List, [], ◌∷◌, ◌++◌, length, Some, Option, refl, sym, ◌∙◌, ap, subst, arith, length-append}
use Rattle.std.specs.Prelude.{All, map, reverse, filter, find, fold, take, drop, replicate, slice_set, slice_get, slice_index, nat_eq, nat_le, bytes_eq, unwrap_or, option_map}
use Rattle.std.specs.List.{list_any, list_all, AllByRecursion}
use Rattle.std.specs.List.Sorted.{IsStrictlyIncreasing}
use Rattle.std.proofs.lemmas.Bool.{and_parts, cases_lt}
use Rattle.std.proofs.lemmas.Bool.Decides.{nat_tests}
use Rattle.std.proofs.lemmas.List.{append_assoc, append-nil, map-append, length-map, reverse-append, take_all}
use Rattle.std.proofs.lemmas.List.Elements.{All-head, All-tail}
use Rattle.std.proofs.lemmas.List.Sums.{fold-append}
use Rattle.std.proofs.lemmas.Slice.Eq.{bytes_eq-Decides}
use Rattle.dv_model.specs.declared.types.Mailbox.{Mailbox}
use Rattle.dv_model.specs.declared.types.Reply.{Reply}
use Rattle.dv_model.specs.declared.types.Reply.TheVariants as reply
use Rattle.dv_model.specs.declared.types.Row.{Row}
use Rattle.dv_model.specs.declared.types.Shown.{Shown}
use Rattle.dv_model.specs.declared.types.Step.{Step}
use Rattle.dv_model.specs.declared.types.Step.TheVariants.{Held, Full}
use Rattle.dv_model.specs.declared.types.Value.TheVariants as value
use Rattle.dv_model.specs.Laws.{IsReadIn, Follows}
use Rattle.dv_model.specs.Views.{View, Known, unknown, with_number, heard, all_heard, known_row, known_of, moved, said, shown, row_of, numbers, names_of, same_row, shows_uid, removals, growth, changes}

-- ---- tests and lists

pub false_is_not_true : {A : Type 0} → false ≡ true → A
false_is_not_true e = absurd cc

pub reverse_first : {X : Type 0} (x : X) (xs : List X) → reverse (x ∷ xs) ≡ reverse xs ++ x ∷ []
reverse_first x xs = reverse-append (x ∷ []) xs

pub not_not : (b : Bool) → not (not b) ≡ b
not_not true = refl
not_not false = refl

pub filter_same : {X : Type 0} (p q : X → Bool) (xs : List X) → AllByRecursion (λ x. p x ≡ q x) xs → filter p xs ≡ filter q xs
filter_same p q [] same = refl
filter_same p q (x ∷ xs) same = ap (λ b. cond b (x ∷ filter p xs) (filter p xs)) same.0 ∙ ap (λ ys. cond (q x) (x ∷ ys) ys) (filter_same p q xs same.1)

pub filter_none : {X : Type 0} (xs : List X) → filter (λ x. false) xs ≡ []
filter_none [] = refl
filter_none (x ∷ xs) = filter_none xs

pub each_of_all : {X : Type 0} (P : X → Type 0) (xs : List X) → All P xs → AllByRecursion P xs
each_of_all P [] all = tt
each_of_all P (x ∷ xs) all = (All-head P x xs all, each_of_all P xs (All-tail P x xs all))

pub each_weaker : {X : Type 0} (P Q : X → Type 0) → ((x : X) → P x → Q x) → (xs : List X) → AllByRecursion P xs → AllByRecursion Q xs
each_weaker P Q weaker [] each = tt
each_weaker P Q weaker (x ∷ xs) each = (weaker x each.0, each_weaker P Q weaker xs each.1)

-- ---- EXPUNGE removes the rows that left

abbrev expunges : (Shown → Bool) → ℕ → List Shown → List Reply
expunges p k rows = map (λ row. reply.Expunge row.0) (reverse (numbers p k rows))

module _ (known : Shown → Known) (p : Shown → Bool) where
  heard_expunge : (front rest : List Known) → heard (front ++ rest) (reply.Expunge (length front + 1)) ≡ front ++ drop 1 rest
  heard_expunge front rest = two (length front + 1) (omega arith)
    where
      take_front : (xs ys : List Known) → take (length xs) (xs ++ ys) ≡ xs
      take_front [] ys = refl
      take_front (x ∷ xs) ys = ap (λ zs. x ∷ zs) (take_front xs ys)

      drop_front : (xs ys : List Known) → drop (suc (length xs)) (xs ++ ys) ≡ drop 1 ys
      drop_front [] ys = refl
      drop_front (x ∷ xs) ys = drop_front xs ys

      two : (k : ℕ) → k ≡ suc (length front) → heard (front ++ rest) (reply.Expunge k) ≡ front ++ drop 1 rest
      two k is =
          let before : k - 1 ≡ length front = omega arith in
          ap (λ n. take n (front ++ rest) ++ drop k (front ++ rest)) before
          ∙ ap (λ n. take (length front) (front ++ rest) ++ drop n (front ++ rest)) is
          ∙ ap (λ zs. zs ++ drop (suc (length front)) (front ++ rest)) (take_front front rest)
          ∙ ap (λ zs. front ++ zs) (drop_front front rest)

  abbrev kept : List Shown → List Shown
  kept rows = filter (λ s. not (p s)) rows

  expunge_step : (k : ℕ) (front : List Known) (s : Shown) (rows : List Shown) → k ≡ length front + 1
      → fold heard (front ++ known s ∷ map known rows) (expunges p (k + 1) rows) ≡ front ++ known s ∷ map known (kept rows)
      → (b : Bool)
      → p s ≡ b
      → fold heard (front ++ known s ∷ map known rows) (expunges p k (s ∷ rows)) ≡ front ++ map known (kept (s ∷ rows))
  expunge_step k front s rows is inner false e = rw e inner
  expunge_step k front s rows is inner true e =
      rw (e, reverse_first (k, s) (numbers p (k + 1) rows))
      (ap (λ replies. fold heard (front ++ known s ∷ map known rows) replies) (map-append (λ row. reply.Expunge row.0) (reverse (numbers p (k + 1) rows)) ((k, s) ∷ []))
      ∙ fold-append heard (front ++ known s ∷ map known rows) (expunges p (k + 1) rows) (reply.Expunge k ∷ [])
      ∙ ap (λ rs. heard rs (reply.Expunge k)) inner
      ∙ ap (λ n. heard (front ++ known s ∷ map known (kept rows)) (reply.Expunge n)) is
      ∙ heard_expunge front (known s ∷ map known (kept rows)))

  heard_expunges : (k : ℕ) (front : List Known) (rows : List Shown) → k ≡ length front + 1 → fold heard (front ++ map known rows) (expunges p k rows) ≡ front ++ map known (kept rows)
  heard_expunges k front [] is = refl
  heard_expunges k front (s ∷ rows) is =
      let moved_on =
      ap (λ rs. fold heard rs (expunges p (k + 1) rows)) (sym (append_assoc front (known s ∷ []) (map known rows)))
      ∙ heard_expunges (k + 1) (front ++ known s ∷ []) rows (omega (arith, length-append front (known s ∷ [])))
      ∙ append_assoc front (known s ∷ []) (map known (kept rows)) in
      expunge_step k front s rows is moved_on (p s) refl

-- ---- FETCH sets the rows that are new or changed

-- each row of the client is as it will be, unless it is told of
abbrev Fits : (Shown → Known) → (Shown → Bool) → List Known → List Shown → Type 0
Fits known p [] [] = Unit {0}
Fits known p [] (s ∷ rows) = ⊥
Fits known p (c ∷ cs) [] = ⊥
Fits known p (c ∷ cs) (s ∷ rows) = (p s ≡ false → c ≡ known s) × Fits known p cs rows

abbrev fetches : Mailbox → (Shown → Bool) → ℕ → List Shown → List Reply
fetches m p k rows = map (λ row. reply.Fetch row.0 row.1.uid (value.Flags row.1.flags (names_of m row.1.keywords) ∷ [])) (numbers p k rows)

heard_fetch : (front : List Known) (c : Known) (rest : List Known) (r : Known) (k : ℕ) → k ≡ suc (length front) → with_number (front ++ c ∷ rest) k r ≡ front ++ r ∷ rest
heard_fetch front c rest r k is = ap (λ n. with_number (front ++ c ∷ rest) n r) is ∙ set_behind front c rest r
  where
    set_behind : (xs : List Known) (y : Known) (ys : List Known) (z : Known) → slice_set (xs ++ y ∷ ys) (length xs) z ≡ xs ++ z ∷ ys
    set_behind [] y ys z = refl
    set_behind (x ∷ xs) y ys z = ap (λ zs. x ∷ zs) (set_behind xs y ys z)

module _ (m : Mailbox) (p : Shown → Bool) where
  fetch_step : (k : ℕ) (front : List Known) (c : Known) (cs : List Known) (s : Shown) (rows : List Shown) → k ≡ length front + 1 → (p s ≡ false → c ≡ known_row m s)
      → fold heard (front ++ known_row m s ∷ cs) (fetches m p (k + 1) rows) ≡ front ++ known_row m s ∷ map (known_row m) rows
      → (b : Bool)
      → p s ≡ b
      → fold heard (front ++ c ∷ cs) (fetches m p k (s ∷ rows)) ≡ front ++ known_row m s ∷ map (known_row m) rows
  fetch_step k front c cs s rows is fits inner false e = rw e (ap (λ r. fold heard (front ++ r ∷ cs) (fetches m p (k + 1) rows)) (fits e) ∙ inner)
  fetch_step k front c cs s rows is fits inner true e = rw e (ap (λ rs. fold heard rs (fetches m p (k + 1) rows)) (heard_fetch front c cs (known_row m s) k (omega arith)) ∙ inner)

  heard_fetches : (k : ℕ) (front cs : List Known) (rows : List Shown) → k ≡ length front + 1 → Fits (known_row m) p cs rows → fold heard (front ++ cs) (fetches m p k rows) ≡ front ++ map (known_row m) rows
  heard_fetches k front [] [] is fits = refl
  heard_fetches k front [] (s ∷ rows) is fits = absurd fits
  heard_fetches k front (c ∷ cs) [] is fits = absurd fits
  heard_fetches k front (c ∷ cs) (s ∷ rows) is fits =
      let inner =
      ap (λ rs. fold heard rs (fetches m p (k + 1) rows)) (sym (append_assoc front (known_row m s ∷ []) cs))
      ∙ heard_fetches (k + 1) (front ++ known_row m s ∷ []) cs rows (omega (arith, length-append front (known_row m s ∷ []))) fits.1
      ∙ append_assoc front (known_row m s ∷ []) (map (known_row m) rows) in
      fetch_step k front c cs s rows is fits.0 inner (p s) refl

-- ---- rows in rising order

-- the UIDs rise, from n on
abbrev pub Above : ℕ → List Shown → Type 0
Above n [] = Unit {0}
Above n (s ∷ rows) = (n ≤ s.uid) × Above (s.uid + 1) rows

pub above_lower : (k n : ℕ) (rows : List Shown) → k ≤ n → Above n rows → Above k rows
above_lower k n [] le above = tt
above_lower k n (s ∷ rows) le above = (omega (arith, above.0), above.1)

pub rising_tail : (n : ℕ) (ns : List ℕ) → IsStrictlyIncreasing (n ∷ ns) → IsStrictlyIncreasing ns
rising_tail n ns up k below =
    let next : suc k + 1 ≡ suc (k + 1) = omega arith in
    subst (λ j. slice_index ns k < slice_index (n ∷ ns) j) next (up (suc k) (omega (arith, below)))

rising_behind : (first : Shown) (rest : List Shown) → IsStrictlyIncreasing (map (λ t. t.uid) (first ∷ rest)) → Above (first.uid + 1) rest
rising_behind first [] up = tt
rising_behind first (next ∷ rest) up =
    let step = up 0 (omega arith) in (omega (arith, step), rising_behind next rest (rising_tail first.uid (map (λ t. t.uid) (next ∷ rest)) up))

pub above_of_rising : (rows : List Shown) → IsStrictlyIncreasing (map (λ s. s.uid) rows) → Above 0 rows
above_of_rising [] rising = tt
above_of_rising (s ∷ rows) rising = (omega arith, rising_behind s rows rising)

-- the row is one of these
abbrev pub IsOne : Shown → List Shown → Type 0
IsOne s [] = ⊥
IsOne s (x ∷ rows) = (s ≡ x) ⊎ IsOne s rows

pub one_above : (n : ℕ) (rows : List Shown) (s : Shown) → Above n rows → IsOne s rows → n ≤ s.uid
one_above n [] s above one = absurd one
one_above n (x ∷ rows) s above (inl e) = let same : s.uid ≡ x.uid = ap (λ (t : Shown). t.uid) e in omega (arith, above.0)
one_above n (x ∷ rows) s above (inr one) = let low = one_above (x.uid + 1) rows s above.1 one in omega (arith, above.0)

-- no two have one UID
pub only_one : (n : ℕ) (rows : List Shown) (s t : Shown) → Above n rows → IsOne s rows → IsOne t rows → s.uid ≡ t.uid → s ≡ t
only_one n [] s t above one other same = absurd one
only_one n (x ∷ rows) s t above (inl e) (inl f) same = e ∙ sym f
only_one n (x ∷ rows) s t above (inl e) (inr other) same =
    let low = one_above (x.uid + 1) rows t above.1 other in let first : s.uid ≡ x.uid = ap (λ (u : Shown). u.uid) e in absurd (omega arith)
only_one n (x ∷ rows) s t above (inr one) (inl f) same =
    let low = one_above (x.uid + 1) rows s above.1 one in let first : t.uid ≡ x.uid = ap (λ (u : Shown). u.uid) f in absurd (omega arith)
only_one n (x ∷ rows) s t above (inr one) (inr other) same = only_one (x.uid + 1) rows s t above.1 one other same

-- a test that some row passes names one
found_here : (test : Shown → Bool) (x : Shown) (rows : List Shown) → (list_any test rows ≡ true → (s : Shown) × IsOne s rows × (test s ≡ true)) → (b : Bool) → test x ≡ b → (b || list_any test rows) ≡ true
    → (s : Shown) × IsOne s (x ∷ rows) × (test s ≡ true)
found_here test x rows later true is e = (x, inl refl, is)
found_here test x rows later false is e = let one = later e in (one.0, inr one.1, one.2)

pub found_one : (test : Shown → Bool) (rows : List Shown) → list_any test rows ≡ true → (s : Shown) × IsOne s rows × (test s ≡ true)
found_one test [] e = false_is_not_true e
found_one test (x ∷ rows) e = found_here test x rows (found_one test rows) (test x) refl e

-- ---- which rows stay, and which are new

abbrev pub shows : List Shown → ℕ → Bool
shows rows uid = list_any (λ s. nat_eq s.uid uid) rows

pub not_same : (a b : ℕ) → a < b → nat_eq a b ≡ false
not_same a b below = grind (arith, nat_tests)

pub not_same_back : (a b : ℕ) → b < a → nat_eq a b ≡ false
not_same_back a b below = grind (arith, nat_tests)

pub none_shown : (n uid : ℕ) (rows : List Shown) → Above n rows → uid < n → shows rows uid ≡ false
none_shown n uid [] above below = refl
none_shown n uid (s ∷ rows) above below = rw (not_same_back s.uid uid (omega (arith, above.0))) (none_shown (s.uid + 1) uid rows above.1 (omega (arith, above.0)))

pub none_past : (b uid : ℕ) (rows : List Shown) → AllByRecursion (λ s. s.uid < b) rows → b ≤ uid → shows rows uid ≡ false
none_past b uid [] below le = refl
none_past b uid (s ∷ rows) below le = let low = below.0 in rw (not_same s.uid uid (omega arith)) (none_past b uid rows below.1 le)

-- each row was shown or is new
abbrev pub Comes : ℕ → List Shown → List Shown → Type 0
Comes b old new = AllByRecursion (λ s. (shows old s.uid ≡ true) ⊎ (b ≤ s.uid)) new

-- the old rows that stay stand first, in their places, and only new ones follow
abbrev pub Aligned : (Shown → Type 0) → ℕ → List Shown → List Shown → Type 0
Aligned In b [] [] = Unit {0}
Aligned In b [] (s ∷ new) = (b ≤ s.uid) × Aligned In b [] new
Aligned In b (k ∷ kept) [] = ⊥
Aligned In b (k ∷ kept) (s ∷ new) = In k × (k.uid ≡ s.uid) × Aligned In b kept new

abbrev pub staying : List Shown → List Shown → List Shown
staying old new = filter (λ s. shows new s.uid) old

or_second : (a b : Bool) → a ≡ false → (a || b) ≡ true → b ≡ true
or_second true b e h = false_is_not_true (sym e)
or_second false b e h = h

-- a row that left doesn't show the rows above it
comes_less : (b : ℕ) (o : Shown) (old new : List Shown) → Above (o.uid + 1) new → Comes b (o ∷ old) new → Comes b old new
comes_less b o old [] above comes = tt
comes_less b o old (s ∷ new) above comes = (
  elim comes.0 [ inl e ↦ inl (or_second (nat_eq o.uid s.uid) (shows old s.uid) (not_same o.uid s.uid (omega (arith, above.0))) e) | inr le ↦ inr le ],
  comes_less b o old new (above_lower (o.uid + 1) (s.uid + 1) new (omega (arith, above.0)) above.1) comes.1,
)

-- the first of the new rows shows none of the old rows above it
first_shows_none : (s : Shown) (new old : List Shown) → Above (s.uid + 1) old → AllByRecursion (λ o. shows (s ∷ new) o.uid ≡ shows new o.uid) old
first_shows_none s new [] above = tt
first_shows_none s new (o ∷ old) above = (
  ap (λ b. b || shows new o.uid) (not_same s.uid o.uid (omega (arith, above.0))),
  first_shows_none s new old (above_lower (s.uid + 1) (o.uid + 1) old (omega (arith, above.0)) above.1),
)

module _ (In : Shown → Type 0) (b : ℕ) where
  aligned_new : (n : ℕ) (new : List Shown) → Comes b [] new → Aligned In b [] new
  aligned_new n [] comes = tt
  aligned_new n (s ∷ new) comes = (elim comes.0 [ inl e ↦ false_is_not_true e | inr le ↦ le ], aligned_new n new comes.1)

  -- what is said of the rows behind the first
  abbrev Behind : ℕ → List Shown → Type 0
  Behind n old = (new : List Shown) → Above n new → Comes b old new → Aligned In b (staying old new) new

  aligned_left : (o s : Shown) (old new : List Shown) → Behind (o.uid + 1) old → Above s.uid (s ∷ new) → Comes b (o ∷ old) (s ∷ new) → o.uid < s.uid → Aligned In b (staying (o ∷ old) (s ∷ new)) (s ∷ new)
  aligned_left o s old new behind above comes below =
      rw (none_shown s.uid o.uid (s ∷ new) above below)
      (behind (s ∷ new) (omega arith, above.1) (comes_less b o old (s ∷ new) (omega arith, above.1) comes))

  aligned_same : (o s : Shown) (old new : List Shown) → Behind (o.uid + 1) old → In o → Above (o.uid + 1) old → Above (s.uid + 1) new → Comes b (o ∷ old) new → o.uid ≡ s.uid
      → Aligned In b (staying (o ∷ old) (s ∷ new)) (s ∷ new)
  aligned_same o s old new behind in_old above_old above comes same =
      let shown_first : nat_eq s.uid o.uid ≡ true = grind (arith, nat_tests, same) in
      let above_new = above_lower (o.uid + 1) (s.uid + 1) new (omega arith) above in
      let others = filter_same (λ x. shows (s ∷ new) x.uid) (λ x. shows new x.uid) old (first_shows_none s new old (above_lower (s.uid + 1) (o.uid + 1) old (omega arith) above_old)) in
      rw (shown_first, others) (in_old, same, behind new above_new (comes_less b o old new above_new comes))

  aligned_never : (o s : Shown) (old new : List Shown) → Above (o.uid + 1) old → o.uid < b → Comes b (o ∷ old) (s ∷ new) → s.uid < o.uid → ⊥
  aligned_never o s old new above below comes less =
      elim comes.0 [
        | inl e ↦ false_is_not_true (sym (none_shown o.uid s.uid (o ∷ old) (omega arith, above) less) ∙ e)
        | inr le ↦ omega (arith, le)
      ]

  pub aligned : (n : ℕ) (old new : List Shown) → Above n old → AllByRecursion (λ o. o.uid < b) old → AllByRecursion In old → Above n new → Comes b old new → Aligned In b (staying old new) new
  aligned n [] new above_old below in_old above comes = aligned_new n new comes
  aligned n (o ∷ old) [] above_old below in_old above comes = rw (filter_none old) tt
  aligned n (o ∷ old) (s ∷ new) above_old below in_old above comes =
      let behind : Behind (o.uid + 1) old = λ others above_others comes_others. aligned (o.uid + 1) old others above_old.1 below.1 in_old.1 above_others comes_others in
      elim (cases_lt o.uid s.uid) [
        | inl less ↦ aligned_left o s old new behind (omega arith, above.1) comes less
        | inr le ↦ elim (cases_lt s.uid o.uid) [
          | inl less ↦ absurd (aligned_never o s old new above_old.1 below.0 comes less)
          | inr ge ↦ aligned_same o s old new behind in_old.0 above_old.1 above.1 comes.1 (omega arith)
        ]
      ]

-- ---- EXISTS adds rows of which nothing is known

abbrev fill : List Shown → List Shown → List Known
fill [] new = map (λ s. unknown) new
fill (k ∷ kept) [] = []
fill (k ∷ kept) (s ∷ new) = fill kept new

all_unknown : (new : List Shown) → replicate (length new) unknown ≡ map (λ s. unknown) new
all_unknown [] = refl
all_unknown (s ∷ new) = ap (λ rows. unknown ∷ rows) (all_unknown new)

module _ (In : Shown → Type 0) (b : ℕ) where
  pub aligned_short : (kept new : List Shown) → Aligned In b kept new → length kept ≤ length new
  aligned_short [] [] a = omega arith
  aligned_short [] (s ∷ new) a = omega arith
  aligned_short (k ∷ kept) [] a = absurd a
  aligned_short (k ∷ kept) (s ∷ new) a = let shorter = aligned_short kept new a.2 in omega arith

  fill_is : (kept new : List Shown) → Aligned In b kept new → replicate (length new - length kept) unknown ≡ fill kept new
  fill_is [] [] a = refl
  fill_is [] (s ∷ new) a = let all : suc (length new) - 0 ≡ suc (length new) = omega arith in ap (λ n. replicate n unknown) all ∙ all_unknown (s ∷ new)
  fill_is (k ∷ kept) [] a = absurd a
  fill_is (k ∷ kept) (s ∷ new) a = let less : suc (length new) - suc (length kept) ≡ length new - length kept = omega arith in ap (λ n. replicate n unknown) less ∙ fill_is kept new a.2

  fill_none : (old : List Shown) → AllByRecursion (λ o. o.uid < b) old → (kept new : List Shown) → Aligned In b kept new → list_all (λ s. shows old s.uid) new ≡ true → fill kept new ≡ []
  fill_none old below [] [] a all = refl
  fill_none old below [] (s ∷ new) a all =
      false_is_not_true (sym (none_past b s.uid old below a.0) ∙ (and_parts (shows old s.uid) (list_all (λ t. shows old t.uid) new) all).0)
  fill_none old below (k ∷ kept) [] a all = refl
  fill_none old below (k ∷ kept) (s ∷ new) a all = fill_none old below kept new a.2 (and_parts (shows old s.uid) (list_all (λ t. shows old t.uid) new) all).1

  module _ (known later : Shown → Known) where
    heard_exists : (kept new : List Shown) → Aligned In b kept new → heard (map known kept) (reply.Exists (length new)) ≡ map known kept ++ fill kept new
    heard_exists kept new a =
        let short = aligned_short kept new a in
        let same : length (map known kept) ≡ length kept = length-map kept known in
        ap (λ rows. rows ++ replicate (length new - length (map known kept)) unknown) (take_all (length new) (map known kept) (omega (arith, short, same)))
        ∙ ap (λ n. map known kept ++ replicate (length new - n) unknown) same
        ∙ ap (λ rows. map known kept ++ rows) (fill_is kept new a)

    heard_growth : (old kept new : List Shown) → AllByRecursion (λ o. o.uid < b) old → Aligned In b kept new → (all : Bool) → list_all (λ s. shows old s.uid) new ≡ all
        → fold heard (map known kept) (cond all [] (reply.Exists (length new) ∷ [])) ≡ map known kept ++ fill kept new
    heard_growth old kept new below a true is = sym (append-nil (map known kept)) ∙ ap (λ rows. map known kept ++ rows) (sym (fill_none old below kept new a is))
    heard_growth old kept new below a false is = heard_exists kept new a

    fits : (p : Shown → Bool) → ((k s : Shown) → In k → k.uid ≡ s.uid → p s ≡ false → known k ≡ later s) → ((s : Shown) → b ≤ s.uid → p s ≡ true)
        → (kept new : List Shown) → Aligned In b kept new → Fits later p (map known kept ++ fill kept new) new
    fits p pairs tail [] [] a = tt
    fits p pairs tail [] (s ∷ new) a = (λ e. false_is_not_true (sym e ∙ tail s a.0), fits p pairs tail [] new a.1)
    fits p pairs tail (k ∷ kept) [] a = absurd a
    fits p pairs tail (k ∷ kept) (s ∷ new) a = (pairs k s a.0 a.1, fits p pairs tail kept new a.2)

-- ---- rows that were shown as they are

pub one_each : (P : Shown → Type 0) (rows : List Shown) (s : Shown) → AllByRecursion P rows → IsOne s rows → P s
one_each P [] s each one = absurd one
one_each P (x ∷ rows) s each (inl e) = subst P (sym e) each.0
one_each P (x ∷ rows) s each (inr one) = one_each P rows s each.1 one

pub each_is_one : (rows more : List Shown) → ((s : Shown) → IsOne s rows → IsOne s more) → AllByRecursion (λ s. IsOne s more) rows
each_is_one [] more inside = tt
each_is_one (x ∷ rows) more inside = (inside x (inl refl), each_is_one rows more (λ s one. inside s (inr one)))

pub get_before : {X : Type 0} (xs more : List X) (k : ℕ) → k < length xs → slice_get (xs ++ more) k ≡ slice_get xs k
get_before [] more k below = absurd (omega (arith, below))
get_before (x ∷ xs) more zero below = refl
get_before (x ∷ xs) more (suc k) below = get_before xs more k (omega (arith, below))

pub names_same : (before m : Mailbox) (more : List (List ℕ)) → m.keywords ≡ before.keywords ++ more → (places : List ℕ) → AllByRecursion (λ k. k < length before.keywords) places → names_of before places ≡ names_of m places
names_same before m more is [] each = refl
names_same before m more is (k ∷ places) each =
    let name : slice_get m.keywords k ≡ slice_get before.keywords k = ap (λ names. slice_get names k) is ∙ get_before before.keywords more k each.0 in
    ap (λ n. unwrap_or n [] ∷ names_of before places) (sym name) ∙ ap (λ ns. unwrap_or (slice_get m.keywords k) [] ∷ ns) (names_same before m more is places each.1)

-- two rows that look the same have the same UID, flags and keywords
pub same_parts : (s t : Shown) → same_row s t ≡ true → (s.uid ≡ t.uid) × (s.flags ≡ t.flags) × (s.keywords ≡ t.keywords)
same_parts s t e =
    let looks = and_parts (nat_eq s.uid t.uid && nat_eq s.flags t.flags) (bytes_eq s.keywords t.keywords) e in
    let numbers = and_parts (nat_eq s.uid t.uid) (nat_eq s.flags t.flags) looks.0 in
    let keywords = (bytes_eq-Decides s.keywords t.keywords).0 looks.1 in
    let uid_test = numbers.0 in
    let flags_test = numbers.1 in
    (grind (arith, nat_tests, uid_test), grind (arith, nat_tests, flags_test), keywords)

pub not_true : (b : Bool) → not b ≡ false → b ≡ true
not_true true e = refl
not_true false e = false_is_not_true (sym e)

pub none_same : (b : ℕ) (s : Shown) (old : List Shown) → AllByRecursion (λ o. o.uid < b) old → b ≤ s.uid → list_any (same_row s) old ≡ false
none_same b s [] below le = refl
none_same b s (o ∷ old) below le = let low = below.0 in rw (not_same_back s.uid o.uid (omega arith)) (none_same b s old below.1 le)

-- ---- any move

-- rows that rise, and are shown or new
pub record Moves (view : View) (new : List Shown) : Type 0 where
  pub rising : Above 0 new
  pub comes : Comes view.next_uid view.rows new

module _ (before m : Mailbox) (view : View) (read : IsReadIn before view) (more : List (List ℕ)) (table : m.keywords ≡ before.keywords ++ more) where
  abbrev old : List Shown
  old = view.rows

  abbrev pub In : Shown → Type 0
  In s = IsOne s old

  old_above : Above 0 old
  old_above = above_of_rising old read.rising

  old_below : AllByRecursion (λ s. s.uid < view.next_uid) old
  old_below = each_of_all (λ (s : Shown). s.uid < view.next_uid) old read.below

  old_places : AllByRecursion (λ s. All (λ k. k < length before.keywords) s.keywords) old
  old_places = each_of_all (λ (s : Shown). All (λ k. k < length before.keywords) s.keywords) old read.keywords

  -- a row that is told of is new or changed
  abbrev is_told : Shown → Bool
  is_told s = not (list_any (same_row s) old)

  stays_known : (k s : Shown) → In k → k.uid ≡ s.uid → is_told s ≡ false → known_row before k ≡ known_row m s
  stays_known k s one uid untold =
      let found = found_one (same_row s) old (not_true (list_any (same_row s) old) untold) in
      let parts = same_parts s found.0 found.2 in
      let is : k ≡ found.0 = only_one 0 old k found.0 old_above one found.1 (uid ∙ parts.0) in
      let flags : k.flags ≡ s.flags = ap (λ (t : Shown). t.flags) is ∙ sym parts.1 in
      let keywords : k.keywords ≡ s.keywords = ap (λ (t : Shown). t.keywords) is ∙ sym parts.2 in
      let places = each_of_all (λ (j : ℕ). j < length before.keywords) k.keywords (one_each (λ s. All (λ j. j < length before.keywords) s.keywords) old k old_places one) in
      let names : names_of before k.keywords ≡ names_of m s.keywords = names_same before m more table k.keywords places ∙ ap (names_of m) keywords in
      ap (λ n. record { uid = n; flags = k.flags; keywords = names_of before k.keywords }) uid
      ∙ ap (λ n. record { uid = s.uid; flags = n; keywords = names_of before k.keywords }) flags
      ∙ ap (λ ns. record { uid = s.uid; flags = s.flags; keywords = ns }) names

  new_told : (s : Shown) → view.next_uid ≤ s.uid → is_told s ≡ true
  new_told s le = ap not (none_same view.next_uid s old old_below le)

  module _ (new : List Shown) (next_uid : ℕ) (moves : Moves view new) where
    abbrev pub kept_rows : List Shown
    kept_rows = staying old new

    pub lined_up : Aligned In view.next_uid kept_rows new
    lined_up = aligned In view.next_uid 0 old new old_above old_below (each_is_one old old (λ s one. one)) moves.rising moves.comes

    abbrev later : View
    later = record { rows = new; next_uid = next_uid }

    pub after_removals : fold heard (known_of before view) (removals view later) ≡ map (known_row before) kept_rows
    after_removals =
        heard_expunges (known_row before) (λ s. not (shows new s.uid)) 1 [] old refl
        ∙ ap (map (known_row before)) (filter_same (λ s. not (not (shows new s.uid))) (λ s. shows new s.uid) old (each_not_not old))
      where
        each_not_not : (rows : List Shown) → AllByRecursion (λ s. not (not (shows new s.uid)) ≡ shows new s.uid) rows
        each_not_not [] = tt
        each_not_not (s ∷ rows) = (not_not (shows new s.uid), each_not_not rows)

    after_growth : fold heard (map (known_row before) kept_rows) (growth view later) ≡ map (known_row before) kept_rows ++ fill kept_rows new
    after_growth = heard_growth In view.next_uid (known_row before) (known_row m) old kept_rows new old_below lined_up (list_all (λ s. shows old s.uid) new) refl

    after_changes : fold heard (map (known_row before) kept_rows ++ fill kept_rows new) (changes m view later) ≡ map (known_row m) new
    after_changes =
        heard_fetches m is_told 1 [] (map (known_row before) kept_rows ++ fill kept_rows new) new refl
        (fits In view.next_uid (known_row before) (known_row m) is_told stays_known new_told kept_rows new lined_up)

    heard_move : all_heard (known_of before view) (said m view later) ≡ known_of m later
    heard_move =
        fold-append heard (known_of before view) (removals view later ++ growth view later) (changes m view later)
        ∙ ap (λ rows. fold heard rows (changes m view later))
        (fold-append heard (known_of before view) (removals view later) (growth view later) ∙ ap (λ rows. fold heard rows (growth view later)) after_removals ∙ after_growth)
        ∙ after_changes

-- ---- both steps

pub shown_uids : (rows : List Row) → map (λ s. s.uid) (map shown rows) ≡ map (λ row. row.uid) rows
shown_uids [] = refl
shown_uids (row ∷ rows) = ap (λ uids. row.uid ∷ uids) (shown_uids rows)

pub all_shown_rise : (m : Mailbox) → IsStrictlyIncreasing (map (λ row. row.uid) m.rows) → Above 0 (map shown m.rows)
all_shown_rise m rising = above_of_rising (map shown m.rows) (subst IsStrictlyIncreasing (sym (shown_uids m.rows)) rising)

shown_comes : (view : View) (rows : List Row) → AllByRecursion (λ row. (shows_uid view row.uid ≡ true) ⊎ (view.next_uid ≤ row.uid)) rows → Comes view.next_uid view.rows (map shown rows)
shown_comes view [] each = tt
shown_comes view (row ∷ rows) each = (each.0, shown_comes view rows each.1)

pub full_moves : (before m : Mailbox) (view : View) → Follows before view m → Moves view (map shown m.rows)
full_moves before m view follows = record {
  rising = all_shown_rise m follows.valid.rising;
  comes = shown_comes view m.rows (each_of_all (λ (row : Row). (shows_uid view row.uid ≡ true) ⊎ (view.next_uid ≤ row.uid)) m.rows follows.rows);
}

-- a row of the view as the mailbox has it now, or as it was shown
abbrev pub held_row : Mailbox → Shown → Shown
held_row m s = unwrap_or (option_map shown (row_of m s.uid)) s

pub held_uid : (m : Mailbox) (s : Shown) → (held_row m s).uid ≡ s.uid
held_uid m s = by_rows m.rows
  where
    by_test : (row : Row) (rest : Option Row) → (unwrap_or (option_map shown rest) s).uid ≡ s.uid → (b : Bool) → nat_eq row.uid s.uid ≡ b → (unwrap_or (option_map shown (cond b (Some row) rest)) s).uid ≡ s.uid
    by_test row rest others true is = grind (arith, nat_tests, is)
    by_test row rest others false is = others

    by_rows : (rows : List Row) → (unwrap_or (option_map shown (find (λ row. nat_eq row.uid s.uid) rows)) s).uid ≡ s.uid
    by_rows [] = refl
    by_rows (row ∷ rows) = by_test row (find (λ r. nat_eq r.uid s.uid) rows) (by_rows rows) (nat_eq row.uid s.uid) refl

pub held_above : (m : Mailbox) (n b : ℕ) (rows tail : List Shown) → n ≤ b → Above n rows → AllByRecursion (λ s. s.uid < b) rows → Above b tail → Above n (map (held_row m) rows ++ tail)
held_above m n b [] tail le above below behind = above_lower n b tail le behind
held_above m n b (s ∷ rows) tail le above below behind =
    let low = below.0 in (
      subst (λ uid. n ≤ uid) (sym (held_uid m s)) above.0,
      subst (λ uid. Above (uid + 1) (map (held_row m) rows ++ tail)) (sym (held_uid m s)) (held_above m (s.uid + 1) b rows tail (omega arith) above.1 below.1 behind),
    )

-- the rows from a UID on
abbrev pub from_uid : ℕ → List Row → List Row
from_uid b rows = filter (λ row. nat_le b row.uid) rows

pub new_above : (n b : ℕ) (rows : List Row) → Above n (map shown rows) → Above n (map shown (from_uid b rows))
new_above n b [] above = tt
new_above n b (row ∷ rows) above =
    let others = new_above (row.uid + 1) b rows above.1 in
    elim (nat_le b row.uid) as (λ t. Above n (map shown (cond t (row ∷ from_uid b rows) (from_uid b rows)))) [
      | true ↦ (above.0, others)
      | false ↦ above_lower n (row.uid + 1) (map shown (from_uid b rows)) (omega (arith, above.0)) others
    ]

pub new_from : (b : ℕ) (rows : List Row) → AllByRecursion (λ s. b ≤ s.uid) (map shown (from_uid b rows))
new_from b [] = tt
new_from b (row ∷ rows) = by_test (nat_le b row.uid) refl (new_from b rows)
  where
    by_test : (t : Bool) → nat_le b row.uid ≡ t → AllByRecursion (λ s. b ≤ s.uid) (map shown (from_uid b rows)) → AllByRecursion (λ s. b ≤ s.uid) (map shown (cond t (row ∷ from_uid b rows) (from_uid b rows)))
    by_test true is others = (grind (arith, nat_tests, is), others)
    by_test false is others = others

pub above_from : (n b : ℕ) (rows : List Shown) → Above n rows → AllByRecursion (λ s. b ≤ s.uid) rows → Above b rows
above_from n b [] above from = tt
above_from n b (s ∷ rows) above from = (from.0, above.1)

pub each_append : {X : Type 0} (P : X → Type 0) (xs ys : List X) → AllByRecursion P xs → AllByRecursion P ys → AllByRecursion P (xs ++ ys)
each_append P [] ys each others = others
each_append P (x ∷ xs) ys each others = (each.0, each_append P xs ys each.1 others)

shows_own : (rows : List Shown) (s : Shown) → IsOne s rows → shows rows s.uid ≡ true
shows_own [] s one = absurd one
shows_own (x ∷ rows) s (inl e) = let same : x.uid ≡ s.uid = ap (λ (t : Shown). t.uid) (sym e) in let test : nat_eq x.uid s.uid ≡ true = grind (arith, nat_tests, same) in rw test refl
shows_own (x ∷ rows) s (inr one) = rw (shows_own rows s one) (or_true (nat_eq x.uid s.uid))
  where
    or_true : (b : Bool) → (b || true) ≡ true
    or_true true = refl
    or_true false = refl

held_comes : (m : Mailbox) (b : ℕ) (rows old : List Shown) → AllByRecursion (λ s. IsOne s old) rows → Comes b old (map (held_row m) rows)
held_comes m b [] shown_before each = tt
held_comes m b (s ∷ rows) shown_before each = (inl (ap (shows shown_before) (held_uid m s) ∙ shows_own shown_before s each.0), held_comes m b rows shown_before each.1)

pub held_moves : (before m : Mailbox) (view : View) → IsReadIn before view → Follows before view m → Moves view (map (held_row m) view.rows ++ map shown (from_uid view.next_uid m.rows))
held_moves before m view read follows =
    let tail = map shown (from_uid view.next_uid m.rows) in
    let behind = above_from 0 view.next_uid tail (new_above 0 view.next_uid m.rows (all_shown_rise m follows.valid.rising)) (new_from view.next_uid m.rows) in
    record {
      rising = held_above m 0 view.next_uid view.rows tail (omega arith) (above_of_rising view.rows read.rising) (each_of_all (λ (s : Shown). s.uid < view.next_uid) view.rows read.below) behind;
      comes = each_append (λ s. (shows view.rows s.uid ≡ true) ⊎ (view.next_uid ≤ s.uid)) (map (held_row m) view.rows) tail
          (held_comes m view.next_uid view.rows view.rows (each_is_one view.rows view.rows (λ s one. one)))
          (each_weaker (λ s. view.next_uid ≤ s.uid) (λ s. (shows view.rows s.uid ≡ true) ⊎ (view.next_uid ≤ s.uid)) (λ s le. inr le) tail (new_from view.next_uid m.rows));
    }

pub client_has_view : (step : Step) (before m : Mailbox) (view : View) → IsReadIn before view → Follows before view m
    → all_heard (known_of before view) (said m view (moved step view m)) ≡ known_of m (moved step view m)
client_has_view Held before m view read follows =
    heard_move before m view read follows.more follows.names (map (held_row m) view.rows ++ map shown (from_uid view.next_uid m.rows)) m.next_uid (held_moves before m view read follows)
client_has_view Full before m view read follows = heard_move before m view read follows.more follows.names (map shown m.rows) m.next_uid (full_moves before m view follows)
