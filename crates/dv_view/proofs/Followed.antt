-- The rows behind a step are those that the changes give: what the code makes, and what the mailbox shows.
use Rattle.std.proofs.Common.{◌≡◌, ◌⊎◌, inl, inr, ℕ, ◌+◌, ◌^◌, ◌<◌, ◌≤◌, Bool, true, false, cond, not, ◌&&◌, ◌||◌, List, [], ◌∷◌, ◌++◌, length, Some, None, Option, refl, sym, ◌∙◌, ap, subst, arith, append_assoc}
use Rattle.std.proofs.lemmas.Bool.{eqb-true, eq-eqb}
use Rattle.std.specs.Prelude.{IfSome, IsSome, map, filter, find, is_some, nat_eq, nat_le, nat_lt, option_map, option_to_list, unwrap_or}
use Rattle.std.specs.List.{AllByRecursion}
use Rattle.std.specs.Option.{option_or}
use Rattle.std.proofs.lemmas.Bool.Decides.{nat_tests}
use Rattle.std.proofs.lemmas.List.{append-nil}
use Rattle.std.proofs.lemmas.List.Elements.{All-weaker}
use Rattle.std.proofs.lemmas.List.Folds.{find-append}
use Rattle.dv_model.specs.declared.types.Fresh.{Fresh}
use Rattle.dv_model.specs.declared.types.Mailbox.{Mailbox}
use Rattle.dv_model.specs.declared.types.Row.{Row}
use Rattle.dv_model.specs.declared.types.Shown.{Shown}
use Rattle.dv_model.specs.declared.types.Step.{Step}
use Rattle.dv_model.specs.declared.types.Step.TheVariants.{Held, Full}
use Rattle.dv_model.specs.Fresh.{AreFresh, IsFreshRow, patched, with_fresh}
use Rattle.dv_model.specs.Views.{View, moved, row_of, shown}
use Rattle.dv_model.proofs.Clients.{Above, above_from, above_lower, above_of_rising, all_shown_rise, each_append, each_of_all, each_weaker, false_is_not_true, from_uid, held_row, held_uid, not_same, shows}
use Rattle.dv_view.specs.Following.{AreGiven, AreKnown, IsPatched, given, has_left, renewed, rows_after, told_of}
use Rattle.dv_view.specs.Laws.{ChangesFollow}
use Rattle.dv_view.specs.Orders.{IsOrdered}
use Rattle.dv_view.proofs.Finding.{any_is_found}
use Rattle.dv_view.proofs.Moving.{Rise, all_of_each, moved_rise}
use Rattle.dv_view.proofs.Patching.{Rises, at_below, at_uid, change_of, no_change, now, own_other, own_same, patched_above, patched_at, same_rows}
use Rattle.dv_view.proofs.Placing.{left_none, rises_of, rises_some, rises_told}
use Rattle.dv_view.proofs.Renewing.{filter_above, filter_each, given_above, renewed_above, renewed_uid}
use Rattle.dv_view.proofs.Rising.{few_from}

-- ---- the row of a UID among rows that were changed

at_append : (u : ℕ) (xs ys : List Shown) → at_uid u (xs ++ ys) ≡ option_or (at_uid u xs) (at_uid u ys)
at_append u xs ys = find-append (λ (s : Shown). nat_eq s.uid u) xs ys

at_map : (g : Shown → Shown) → ((s : Shown) → (g s).uid ≡ s.uid) → (u : ℕ) (rows : List Shown) → at_uid u (map g rows) ≡ option_map g (at_uid u rows)
at_map g same u [] = refl
at_map g same u (s ∷ rows) = ap (λ v. cond (nat_eq v u) (Some (g s)) (at_uid u (map g rows))) (same s) ∙ ap (λ o. cond (nat_eq s.uid u) (Some (g s)) o) (at_map g same u rows) ∙ by_test (nat_eq s.uid u)
  where
    by_test : (b : Bool) → cond b (Some (g s)) (option_map g (at_uid u rows)) ≡ option_map g (cond b (Some s) (at_uid u rows))
    by_test true = refl
    by_test false = refl

none_by : (b : Bool) → ◌≡◌ {A = Option Shown} (cond b None None) None
none_by true = refl
none_by false = refl

at_filter : (p : ℕ → Bool) (u : ℕ) (rows : List Shown) → at_uid u (filter (λ s. p s.uid) rows) ≡ cond (p u) (at_uid u rows) None
at_filter p u [] = sym (none_by (p u))
at_filter p u (s ∷ rows) = by_test (p s.uid) refl (nat_eq s.uid u) refl (at_filter p u rows)
  where
    by_test : (b : Bool) → p s.uid ≡ b → (c : Bool) → nat_eq s.uid u ≡ c → at_uid u (filter (λ t. p t.uid) rows) ≡ cond (p u) (at_uid u rows) None
        → at_uid u (cond b (s ∷ filter (λ t. p t.uid) rows) (filter (λ t. p t.uid) rows)) ≡ cond (p u) (cond c (Some s) (at_uid u rows)) None
    by_test true e true f rest = let pass : p u ≡ true = ap p (sym (eqb-true s.uid u f)) ∙ e in rw (f, pass) refl
    by_test true e false f rest = rw f rest
    by_test false e true f rest = let fail : p u ≡ false = ap p (sym (eqb-true s.uid u f)) ∙ e in rest ∙ ap (λ c. cond c (at_uid u rows) None) fail ∙ sym (ap (λ c. cond c (Some s) None) fail)
    by_test false e false f rest = rest

pub find_each : {X : Type 0} (P : X → Type 0) (p : X → Bool) (xs : List X) → AllByRecursion P xs → (o : Option X) → find p xs ≡ o → IfSome o (λ x. P x × (p x ≡ true))
find_each P p xs each None e = tt
find_each P p [] each (Some x) e = absurd cc
find_each P p (y ∷ xs) each (Some x) e = by_test (p y) refl e (find_each P p xs each.1 (Some x))
  where
    by_test : (b : Bool) → p y ≡ b → cond b (Some y) (find p xs) ≡ Some x → (find p xs ≡ Some x → P x × (p x ≡ true)) → P x × (p x ≡ true)
    by_test true t found rest = let is : y ≡ x = cc in (subst P is each.0, subst (λ z. p z ≡ true) is t)
    by_test false t found rest = rest found

-- ---- the change of a UID

given_at : (n u : ℕ) (fresh : List Fresh) → Rises n fresh → at_uid u (given fresh) ≡ now (change_of u fresh) None
given_at n u [] rises = refl
given_at n u (f ∷ fresh) rises = by_test (nat_eq f.uid u) refl (given_at (f.uid + 1) u fresh rises.2)
  where
    by_test : (b : Bool) → nat_eq f.uid u ≡ b → at_uid u (given fresh) ≡ now (change_of u fresh) None → at_uid u (option_to_list f.row ++ given fresh) ≡ now (cond b (Some f) (change_of u fresh)) None
    by_test true e rest = let same = eqb-true f.uid u e in own_same u f.uid f.row (given fresh) rises.1 same (at_below (f.uid + 1) u (given fresh) (given_above (f.uid + 1) fresh rises.2) (omega (arith, same)))
    by_test false e rest = own_other u f.uid f.row (given fresh) rises.1 e ∙ rest

abbrev pub kept : Option Fresh → Option Fresh
kept (Some f) = cond (is_some f.row) (Some f) None
kept None = None

pub some_at : (n u : ℕ) (fresh : List Fresh) → Rises n fresh → change_of u (filter (λ f. is_some f.row) fresh) ≡ kept (change_of u fresh)
some_at n u [] rises = refl
some_at n u (f ∷ fresh) rises = by_test (nat_eq f.uid u) refl (is_some f.row) refl (some_at (f.uid + 1) u fresh rises.2)
  where
    by_test : (b : Bool) → nat_eq f.uid u ≡ b → (c : Bool) → is_some f.row ≡ c → change_of u (filter (λ g. is_some g.row) fresh) ≡ kept (change_of u fresh)
        → change_of u (cond c (f ∷ filter (λ g. is_some g.row) fresh) (filter (λ g. is_some g.row) fresh)) ≡ kept (cond b (Some f) (change_of u fresh))
    by_test true e true t rest = rw (e, t) refl
    by_test true e false t rest =
        let same = eqb-true f.uid u e in
        rest ∙ ap kept (no_change (f.uid + 1) u fresh rises.2 (omega (arith, same))) ∙ sym (ap (λ c. cond c (Some f) None) t)
    by_test false e true t rest = rw e rest
    by_test false e false t rest = rest

abbrev pub has_none : Option Fresh → Bool
has_none (Some f) = not (is_some f.row)
has_none None = false

pub left_is : (n u : ℕ) (fresh : List Fresh) → Rises n fresh → has_left fresh u ≡ has_none (change_of u fresh)
left_is n u [] rises = refl
left_is n u (f ∷ fresh) rises = by_test (nat_eq f.uid u) refl (left_is (f.uid + 1) u fresh rises.2)
  where
    or_false : (b : Bool) → (b || false) ≡ b
    or_false true = refl
    or_false false = refl

    by_test : (b : Bool) → nat_eq f.uid u ≡ b → has_left fresh u ≡ has_none (change_of u fresh) → ((b && not (is_some f.row)) || has_left fresh u) ≡ has_none (cond b (Some f) (change_of u fresh))
    by_test true e rest = let same = eqb-true f.uid u e in ap (λ c. not (is_some f.row) || c) (left_none (f.uid + 1) u fresh rises.2 (omega (arith, same))) ∙ or_false (not (is_some f.row))
    by_test false e rest = rest

-- ---- rows of a view, and changes that it can follow

pub rise_of_ordered : (view : View) → IsOrdered view → Rise view.next_uid view.rows
rise_of_ordered view ordered = record {
  above = above_of_rising view.rows ordered.rising;
  below = each_of_all (λ (s : Shown). s.uid < view.next_uid) view.rows ordered.below;
}

above_append : (n b : ℕ) (front tail : List Shown) → n ≤ b → Above n front → AllByRecursion (λ s. s.uid < b) front → Above b tail → Above n (front ++ tail)
above_append n b [] tail le above below behind = above_lower n b tail le behind
above_append n b (s ∷ front) tail le above below behind = let low = below.0 in (above.0, above_append (s.uid + 1) b front tail (omega arith) above.1 below.1 behind)

filter_from : (b : ℕ) (rows : List Shown) → AllByRecursion (λ s. b ≤ s.uid) (filter (λ s. nat_le b s.uid) rows)
filter_from b [] = tt
filter_from b (s ∷ rows) = by_test (nat_le b s.uid) refl (filter_from b rows)
  where
    by_test : (c : Bool) → nat_le b s.uid ≡ c → AllByRecursion (λ s. b ≤ s.uid) (filter (λ s. nat_le b s.uid) rows) → AllByRecursion (λ s. b ≤ s.uid) (cond c (s ∷ filter (λ s. nat_le b s.uid) rows) (filter (λ s. nat_le b s.uid) rows))
    by_test true e rest = (grind (arith, nat_tests, e), rest)
    by_test false e rest = rest

map_below : (g : Shown → Shown) → ((s : Shown) → (g s).uid ≡ s.uid) → (b : ℕ) (rows : List Shown) → AllByRecursion (λ s. s.uid < b) rows → AllByRecursion (λ s. s.uid < b) (map g rows)
map_below g same b [] each = tt
map_below g same b (s ∷ rows) each = (subst (λ u. u < b) (sym (same s)) each.0, map_below g same b rows each.1)

module _ (rows : List Shown) (b : ℕ) (fresh : List Fresh) (rise : Rise b rows) (rises : Rises 0 fresh) (known : AreKnown rows b fresh) where
  abbrev changed : List Shown
  changed = filter (λ s. nat_lt s.uid b) (given fresh)

  abbrev added : List Shown
  added = filter (λ s. nat_le b s.uid) (given fresh)

  added_above : Above b added
  added_above = above_from 0 b added (filter_above (λ (s : Shown). nat_le b s.uid) 0 (given fresh) (given_above 0 fresh rises)) (filter_from b (given fresh))

  renewed_low : AllByRecursion (λ s. s.uid < b) (map (renewed changed) rows)
  renewed_low = map_below (renewed changed) (renewed_uid changed) b rows rise.below

  -- one that is given and wasn't shown is new
  module _ (u : ℕ) where
    is_new : (f : Fresh) → change_of u fresh ≡ Some f → at_uid u rows ≡ None → IsSome f.row → b ≤ u
    is_new f e none some =
        let found = find_each (λ (f : Fresh). IsSome f.row → (shows rows f.uid ≡ true) ⊎ (b ≤ f.uid)) (λ (f : Fresh). nat_eq f.uid u) fresh (each_of_all (λ (f : Fresh). IsSome f.row → (shows rows f.uid ≡ true) ⊎ (b ≤ f.uid)) fresh known) (Some f) e in
        let same : f.uid ≡ u = eqb-true f.uid u found.1 in
        elim (found.0 some) [
          | inl shown_before ↦ false_is_not_true (sym (any_is_found (λ (s : Shown). nat_eq s.uid u) rows ∙ ap is_some none) ∙ ap (shows rows) (sym same) ∙ shown_before)
          | inr le ↦ omega arith
        ]

    -- what is added of this UID
    added_at : at_uid u added ≡ cond (nat_le b u) (now (change_of u fresh) None) None
    added_at = at_filter (nat_le b) u (given fresh) ∙ ap (λ o. cond (nat_le b u) o None) (given_at 0 u fresh rises)

    new_at : (o : Option Fresh) → change_of u fresh ≡ o → at_uid u rows ≡ None → cond (nat_le b u) (now o None) None ≡ now o None
    new_at None e none = none_by (nat_le b u)
    new_at (Some f) e none = by_row f.row refl
      where
        by_row : (row : Option Shown) → f.row ≡ row → cond (nat_le b u) row None ≡ row
        by_row None is = none_by (nat_le b u)
        by_row (Some s) is =
            let le : b ≤ u = is_new f e none (subst IsSome (sym is) refl) in
            let test : nat_le b u ≡ true = grind (arith, nat_tests, le) in
            ap (λ c. cond c (Some s) None) test

    kept_now : (o : Option Fresh) → now (kept o) None ≡ now o None
    kept_now None = refl
    kept_now (Some f) = by_row f.row refl
      where
        by_row : (row : Option Shown) → f.row ≡ row → now (cond (is_some row) (Some f) None) None ≡ row
        by_row None is = refl
        by_row (Some s) is = is

    -- a row of the view lies below
    is_old : (s : Shown) → at_uid u rows ≡ Some s → (s.uid ≡ u) × (u < b)
    is_old s e =
        let found = find_each (λ (s : Shown). s.uid < b) (λ (s : Shown). nat_eq s.uid u) rows rise.below (Some s) e in
        let same = eqb-true s.uid u found.1 in let low = found.0 in (same, omega (arith, same, low))

    renewed_at : (s : Shown) → at_uid u rows ≡ Some s → renewed changed s ≡ unwrap_or (now (change_of u fresh) None) s
    renewed_at s e =
        let old = is_old s e in
        let less = old.1 in
        let test : nat_lt u b ≡ true = grind (arith, nat_tests, less) in
        ap (λ v. unwrap_or (at_uid v changed) s) old.0
        ∙ ap (λ o. unwrap_or o s) (at_filter (λ v. nat_lt v b) u (given fresh) ∙ ap (λ c. cond c (at_uid u (given fresh)) None) test ∙ given_at 0 u fresh rises)

    not_added : (s : Shown) → at_uid u rows ≡ Some s → (o : Option Shown) → cond (nat_le b u) o None ≡ None
    not_added s e o =
        let less = (is_old s e).1 in
        let test : nat_le b u ≡ false = grind (arith, nat_tests, less) in
        ap (λ c. cond c o None) test

    held_at : (r : Option Shown) → at_uid u rows ≡ r → (o : Option Fresh) → change_of u fresh ≡ o
        → option_or (option_map (renewed changed) r) (cond (nat_le b u) (now o None) None) ≡ now (kept o) r
    held_at None e o f = new_at o f e ∙ sym (kept_now o)
    held_at (Some s) e o f = ap (λ x. Some x) (renewed_at s e ∙ ap (λ p. unwrap_or (now p None) s) f) ∙ by_change o
      where
        by_row : (g : Fresh) (row : Option Shown) → g.row ≡ row → Some (unwrap_or row s) ≡ now (cond (is_some row) (Some g) None) (Some s)
        by_row g None is = refl
        by_row g (Some t) is = sym is

        by_change : (o : Option Fresh) → Some (unwrap_or (now o None) s) ≡ now (kept o) (Some s)
        by_change None = refl
        by_change (Some g) = by_row g g.row refl

    full_at : (r : Option Shown) → at_uid u rows ≡ r → (o : Option Fresh) → change_of u fresh ≡ o
        → option_or (cond (not (has_none o)) (option_map (renewed changed) r) None) (cond (nat_le b u) (now o None) None) ≡ now o r
    full_at None e o f = ap (λ p. option_or p (cond (nat_le b u) (now o None) None)) (none_by (not (has_none o))) ∙ new_at o f e
    full_at (Some s) e o f =
        ap (λ p. option_or (cond (not (has_none o)) (Some (renewed changed s)) None) p) (not_added s e (now o None))
        ∙ ap (λ x. option_or (cond (not (has_none o)) (Some x) None) None) (renewed_at s e ∙ ap (λ p. unwrap_or (now p None) s) f) ∙ by_change o
      where
        by_row : (row : Option Shown) → option_or (cond (not (not (is_some row))) (Some (unwrap_or row s)) None) None ≡ row
        by_row None = refl
        by_row (Some t) = refl

        by_change : (o : Option Fresh) → option_or (cond (not (has_none o)) (Some (unwrap_or (now o None) s)) None) None ≡ now o (Some s)
        by_change None = refl
        by_change (Some g) = by_row g.row

  pub followed_held : map (renewed changed) rows ++ added ≡ rows_after Held rows fresh
  followed_held =
      same_rows 0 (map (renewed changed) rows ++ added) (patched rows (told_of Held fresh))
      (above_append 0 b (map (renewed changed) rows) added (omega arith) (renewed_above 0 changed rows rise.above) renewed_low added_above)
      (patched_above 0 rows (told_of Held fresh) rise.above (rises_some 0 fresh rises))
      (λ u. at_append u (map (renewed changed) rows) added
      ∙ ap (λ o. option_or o (at_uid u added)) (at_map (renewed changed) (renewed_uid changed) u rows)
      ∙ ap (λ o. option_or (option_map (renewed changed) (at_uid u rows)) o) (added_at u)
      ∙ held_at u (at_uid u rows) refl (change_of u fresh) refl
      ∙ sym (patched_at 0 0 u rows (told_of Held fresh) rise.above (omega arith) (rises_some 0 fresh rises) ∙ ap (λ o. now o (at_uid u rows)) (some_at 0 u fresh rises)))

  abbrev staying_rows : List Shown
  staying_rows = filter (λ s. not (has_left fresh s.uid)) (map (renewed changed) rows)

  pub followed_full : staying_rows ++ added ≡ rows_after Full rows fresh
  followed_full =
      same_rows 0 (staying_rows ++ added) (patched rows fresh)
      (above_append 0 b staying_rows added (omega arith)
      (filter_above (λ (s : Shown). not (has_left fresh s.uid)) 0 (map (renewed changed) rows) (renewed_above 0 changed rows rise.above))
      (filter_each (λ (s : Shown). s.uid < b) (λ (s : Shown). not (has_left fresh s.uid)) (map (renewed changed) rows) renewed_low) added_above)
      (patched_above 0 rows fresh rise.above rises)
      (λ u. at_append u staying_rows added
      ∙ ap (λ o. option_or o (at_uid u added)) (at_filter (λ v. not (has_left fresh v)) u (map (renewed changed) rows) ∙ ap (λ o. cond (not (has_left fresh u)) o None) (at_map (renewed changed) (renewed_uid changed) u rows)
      ∙ ap (λ c. cond (not c) (option_map (renewed changed) (at_uid u rows)) None) (left_is 0 u fresh rises))
      ∙ ap (λ o. option_or (cond (not (has_none (change_of u fresh))) (option_map (renewed changed) (at_uid u rows)) None) o) (added_at u)
      ∙ full_at u (at_uid u rows) refl (change_of u fresh) refl
      ∙ sym (patched_at 0 0 u rows fresh rise.above (omega arith) rises))

-- by either step
pub followed : (step : Step) (rows : List Shown) (b : ℕ) (fresh : List Fresh) → Rise b rows → Rises 0 fresh → AreKnown rows b fresh → (before after renewing adding : List Shown)
    → before ≡ rows → renewing ≡ filter (λ s. nat_lt s.uid b) (given fresh) → adding ≡ filter (λ s. nat_le b s.uid) (given fresh)
    → (step ≡ Held → after ≡ map (renewed renewing) before ++ adding)
    → (step ≡ Full → after ≡ filter (λ s. not (has_left fresh s.uid)) (map (renewed renewing) before) ++ adding)
    → after ≡ rows_after step rows fresh
followed Held rows b fresh rise rises known before after renewing adding same renews adds held full =
    held refl
    ∙ ap (λ rs. map (renewed renewing) rs ++ adding) same
    ∙ ap (λ xs. map (renewed xs) rows ++ adding) renews
    ∙ ap (λ xs. map (renewed (filter (λ s. nat_lt s.uid b) (given fresh))) rows ++ xs) adds
    ∙ followed_held rows b fresh rise rises known
followed Full rows b fresh rise rises known before after renewing adding same renews adds held full =
    full refl
    ∙ ap (λ rs. filter (λ s. not (has_left fresh s.uid)) (map (renewed renewing) rs) ++ adding) same
    ∙ ap (λ xs. filter (λ s. not (has_left fresh s.uid)) (map (renewed xs) rows) ++ adding) renews
    ∙ ap (λ xs. filter (λ s. not (has_left fresh s.uid)) (map (renewed (filter (λ s. nat_lt s.uid b) (given fresh))) rows) ++ xs) adds
    ∙ followed_full rows b fresh rise rises known

-- ---- the mailbox to which the changes lead

pub find_shown : (u : ℕ) (rows : List Row) → option_map shown (find (λ row. nat_eq row.uid u) rows) ≡ at_uid u (map shown rows)
find_shown u [] = refl
find_shown u (row ∷ rows) = by_test (nat_eq row.uid u) (find_shown u rows)
  where
    by_test : (b : Bool) → option_map shown (find (λ row. nat_eq row.uid u) rows) ≡ at_uid u (map shown rows)
        → option_map shown (cond b (Some row) (find (λ row. nat_eq row.uid u) rows)) ≡ cond b (Some (shown row)) (at_uid u (map shown rows))
    by_test true rest = refl
    by_test false rest = rest

from_shown : (b : ℕ) (rows : List Row) → map shown (from_uid b rows) ≡ filter (λ s. nat_le b s.uid) (map shown rows)
from_shown b [] = refl
from_shown b (row ∷ rows) = by_test (nat_le b row.uid) (from_shown b rows)
  where
    by_test : (c : Bool) → map shown (from_uid b rows) ≡ filter (λ s. nat_le b s.uid) (map shown rows)
        → map shown (cond c (row ∷ from_uid b rows) (from_uid b rows)) ≡ cond c (shown row ∷ filter (λ s. nat_le b s.uid) (map shown rows)) (filter (λ s. nat_le b s.uid) (map shown rows))
    by_test true rest = ap (λ rs. shown row ∷ rs) rest
    by_test false rest = rest

module _ (view : View) (uid_next : ℕ) (table : List (List ℕ)) (fresh : List Fresh) (m : Mailbox) (ordered : IsOrdered view) (later : view.next_uid ≤ uid_next)
    (rises : Rises 0 fresh) (known : AreKnown view.rows view.next_uid fresh) (is : IsPatched view uid_next table fresh m) where
  rise : Rise view.next_uid view.rows
  rise = rise_of_ordered view ordered

  shown_now : (u : ℕ) → at_uid u (map shown m.rows) ≡ now (change_of u fresh) (at_uid u view.rows)
  shown_now u = ap (at_uid u) is.rows ∙ patched_at 0 0 u view.rows fresh rise.above (omega arith) rises

  abbrev new_rows : List Shown
  new_rows = map shown (from_uid view.next_uid m.rows)

  new_rows_at : (u : ℕ) → at_uid u new_rows ≡ cond (nat_le view.next_uid u) (now (change_of u fresh) (at_uid u view.rows)) None
  new_rows_at u =
      ap (at_uid u) (from_shown view.next_uid m.rows) ∙ at_filter (nat_le view.next_uid) u (map shown m.rows)
      ∙ ap (λ o. cond (nat_le view.next_uid u) o None) (shown_now u)

  held_now : (u : ℕ) (r : Option Shown) → at_uid u view.rows ≡ r → (o : Option Fresh) → change_of u fresh ≡ o
      → option_or (option_map (held_row m) r) (cond (nat_le view.next_uid u) (now o r) None) ≡ now (kept o) r
  held_now u None e o f = new_at view.rows view.next_uid fresh rise rises known u o f e ∙ sym (kept_now view.rows view.next_uid fresh rise rises known u o)
  held_now u (Some s) e o f =
      let old = is_old view.rows view.next_uid fresh rise rises known u s e in
      let row : option_map shown (row_of m s.uid) ≡ now o (Some s) =
      ap (λ v. option_map shown (row_of m v)) old.0 ∙ find_shown u m.rows ∙ shown_now u ∙ ap (λ p. now p (at_uid u view.rows)) f ∙ ap (now o) e in
      ap (λ p. Some (unwrap_or p s)) row ∙ by_change o
    where
      by_row : (g : Fresh) (row : Option Shown) → g.row ≡ row → Some (unwrap_or row s) ≡ now (cond (is_some row) (Some g) None) (Some s)
      by_row g None is = refl
      by_row g (Some t) is = sym is

      by_change : (o : Option Fresh) → Some (unwrap_or (now o (Some s)) s) ≡ now (kept o) (Some s)
      by_change None = refl
      by_change (Some g) = by_row g g.row refl

  abbrev held_rows : List Shown
  held_rows = map (held_row m) view.rows ++ new_rows

  -- the view moves to the rows behind the step
  pub moved_is_after : (step : Step) → (moved step view m).rows ≡ rows_after step view.rows fresh
  moved_is_after Full = is.rows
  moved_is_after Held =
      same_rows 0 held_rows (patched view.rows (told_of Held fresh))
      (moved_rise Held m view ordered is.valid (subst (λ n. view.next_uid ≤ n) (sym is.next_uid) later)).above
      (patched_above 0 view.rows (told_of Held fresh) rise.above (rises_some 0 fresh rises))
      (λ u. at_append u (map (held_row m) view.rows) new_rows
      ∙ ap (λ o. option_or o (at_uid u new_rows)) (at_map (held_row m) (held_uid m) u view.rows)
      ∙ ap (λ o. option_or (option_map (held_row m) (at_uid u view.rows)) o) (new_rows_at u)
      ∙ held_now u (at_uid u view.rows) refl (change_of u fresh) refl
      ∙ sym (patched_at 0 0 u view.rows (told_of Held fresh) rise.above (omega arith) (rises_some 0 fresh rises) ∙ ap (λ o. now o (at_uid u view.rows)) (some_at 0 u fresh rises)))

  pub moved_whole : (step : Step) → moved step view m ≡ record { rows = rows_after step view.rows fresh; next_uid = uid_next }
  moved_whole step = by_step step (moved_is_after step)
    where
      made : (rows : List Shown) (n : ℕ) → rows ≡ rows_after step view.rows fresh → n ≡ uid_next → ◌≡◌ {A = View} (record { rows = rows; next_uid = n }) (record { rows = rows_after step view.rows fresh; next_uid = uid_next })
      made rows n e number = ap (λ rs. record { rows = rs; next_uid = n }) e ∙ ap (λ k. record { rows = rows_after step view.rows fresh; next_uid = k }) number

      by_step : (s : Step) → (moved s view m).rows ≡ rows_after step view.rows fresh → moved s view m ≡ record { rows = rows_after step view.rows fresh; next_uid = uid_next }
      by_step Held e = made (moved Held view m).rows m.next_uid e is.next_uid
      by_step Full e = made (moved Full view m).rows m.next_uid e is.next_uid

-- ---- the rows behind a step rise

option_below : (n uid : ℕ) (row : Option Shown) (rows : List Shown) → IfSome row (λ s. s.uid ≡ uid) → uid < n → AllByRecursion (λ s. s.uid < n) rows → AllByRecursion (λ s. s.uid < n) (option_to_list row ++ rows)
option_below n uid None rows own less each = each
option_below n uid (Some s) rows own less each = (omega (arith, own, less), each)

with_below : (n : ℕ) (rows : List Shown) (f : Fresh) → IfSome f.row (λ s. s.uid ≡ f.uid) → f.uid < n → AllByRecursion (λ s. s.uid < n) rows → AllByRecursion (λ s. s.uid < n) (with_fresh rows f)
with_below n [] f own less each = subst (AllByRecursion (λ (s : Shown). s.uid < n)) (append-nil (option_to_list f.row)) (option_below n f.uid f.row [] own less tt)
with_below n (s ∷ rows) f own less each = by_test (nat_lt s.uid f.uid) (nat_eq s.uid f.uid) (with_below n rows f own less each.1)
  where
    by_test : (b c : Bool) → AllByRecursion (λ s. s.uid < n) (with_fresh rows f)
        → AllByRecursion (λ s. s.uid < n) (cond b (s ∷ with_fresh rows f) (cond c (option_to_list f.row ++ rows) (option_to_list f.row ++ s ∷ rows)))
    by_test true c rest = (each.0, rest)
    by_test false true rest = option_below n f.uid f.row rows own less each.1
    by_test false false rest = option_below n f.uid f.row (s ∷ rows) own less (each.0, each.1)

patched_below : (n m : ℕ) (rows : List Shown) (fresh : List Fresh) → Rises m fresh → AllByRecursion (λ f. f.uid < n) fresh → AllByRecursion (λ s. s.uid < n) rows → AllByRecursion (λ s. s.uid < n) (patched rows fresh)
patched_below n m rows [] rises low each = each
patched_below n m rows (f ∷ fresh) rises low each = patched_below n (f.uid + 1) (with_fresh rows f) fresh rises.2 low.1 (with_below n rows f rises.1 low.0 each)

told_low : (step : Step) (n : ℕ) (fresh : List Fresh) → AllByRecursion (λ f. f.uid < n) fresh → AllByRecursion (λ f. f.uid < n) (told_of step fresh)
told_low Full n fresh each = each
told_low Held n [] each = tt
told_low Held n (f ∷ fresh) each = by_test (is_some f.row) (told_low Held n fresh each.1)
  where
    by_test : (b : Bool) → AllByRecursion (λ f. f.uid < n) (filter (λ f. is_some f.row) fresh) → AllByRecursion (λ f. f.uid < n) (cond b (f ∷ filter (λ f. is_some f.row) fresh) (filter (λ f. is_some f.row) fresh))
    by_test true rest = (each.0, rest)
    by_test false rest = rest

pub after_rise : (step : Step) (view : View) (uid_next names : ℕ) (fresh : List Fresh) → IsOrdered view → AreFresh view uid_next names fresh → Rises 0 fresh → Rise uid_next (rows_after step view.rows fresh)
after_rise step view uid_next names fresh ordered are rises =
    let old = rise_of_ordered view ordered in
    let later = are.later in
    record {
      above = patched_above 0 view.rows (told_of step fresh) old.above (rises_told step 0 fresh rises);
      below = patched_below uid_next 0 view.rows (told_of step fresh) (rises_told step 0 fresh rises)
          (told_low step uid_next fresh (each_weaker (λ f. (1 ≤ f.uid) × (f.uid < uid_next)) (λ f. f.uid < uid_next) (λ f given. given.1) fresh (each_of_all (λ (f : Fresh). (1 ≤ f.uid) × (f.uid < uid_next)) fresh are.given)))
          (each_weaker (λ s. s.uid < view.next_uid) (λ s. s.uid < uid_next) (λ s less. omega arith) view.rows old.below);
    }

pub after_few : (n : ℕ) (rows : List Shown) → Rise n rows → n < 2 ^ 32 → length rows < 2 ^ 32
after_few n rows rise less = let most = few_from 0 n rows (omega arith) rise.above rise.below in omega (arith, most, less)

pub given_of : (view : View) (uid_next names : ℕ) (fresh : List Fresh) → AreFresh view uid_next names fresh → AreGiven fresh
given_of view uid_next names fresh are = record {
  rising = are.rising;
  own = All-weaker (λ (f : Fresh). IfSome f.row (IsFreshRow names f.uid)) (λ (f : Fresh). IfSome f.row (λ s. s.uid ≡ f.uid)) (λ f given. own f f.row given) fresh are.rows;
}
  where
    own : (f : Fresh) (row : Option Shown) → IfSome row (IsFreshRow names f.uid) → IfSome row (λ s. s.uid ≡ f.uid)
    own f (Some s) given = given.is
    own f None given = tt

-- ---- the mailbox may follow

row_known : (view : View) (fresh : List Fresh) → Rise view.next_uid view.rows → Rises 0 fresh → AreKnown view.rows view.next_uid fresh
    → (u : ℕ) (s : Shown) → at_uid u (patched view.rows fresh) ≡ Some s → (shows view.rows u ≡ true) ⊎ (view.next_uid ≤ u)
row_known view fresh rise rises known u s e =
    by_row (at_uid u view.rows) refl (change_of u fresh) refl (sym (patched_at 0 0 u view.rows fresh rise.above (omega arith) rises) ∙ e)
  where
    by_row : (r : Option Shown) → at_uid u view.rows ≡ r → (o : Option Fresh) → change_of u fresh ≡ o → now (change_of u fresh) (at_uid u view.rows) ≡ Some s → (shows view.rows u ≡ true) ⊎ (view.next_uid ≤ u)
    by_row (Some t) f o g is = inl (any_is_found (λ (t : Shown). nat_eq t.uid u) view.rows ∙ ap is_some f)
    by_row None f None g is = let never : None ≡ Some s = sym (ap (λ p. now p (at_uid u view.rows)) g ∙ f) ∙ is in absurd cc
    by_row None f (Some h) g is =
        let row : h.row ≡ Some s = sym (ap (λ p. now p (at_uid u view.rows)) g) ∙ is in
        inr (is_new view.rows view.next_uid fresh rise rises known u h g f (subst IsSome (sym row) refl))

rows_known : (view : View) (fresh : List Fresh) → Rise view.next_uid view.rows → Rises 0 fresh → AreKnown view.rows view.next_uid fresh
    → (n : ℕ) (front rows : List Shown) → Above n rows → front ++ rows ≡ patched view.rows fresh → AllByRecursion (λ s. s.uid < n) front → AllByRecursion (λ s. (shows view.rows s.uid ≡ true) ⊎ (view.next_uid ≤ s.uid)) rows
rows_known view fresh rise rises known n front [] above is low = tt
rows_known view fresh rise rises known n front (s ∷ rows) above is low =
    let least = above.0 in
    let at : at_uid s.uid (patched view.rows fresh) ≡ Some s =
    ap (at_uid s.uid) (sym is) ∙ at_append s.uid front (s ∷ rows) ∙ ap (λ o. option_or o (at_uid s.uid (s ∷ rows))) (at_past n s.uid front low (omega arith))
    ∙ ap (λ b. cond b (Some s) (at_uid s.uid rows)) (eq-eqb s.uid s.uid refl) in (
      row_known view fresh rise rises known s.uid s at,
      rows_known view fresh rise rises known (s.uid + 1) (front ++ s ∷ []) rows above.1 (append_assoc front (s ∷ []) rows ∙ is)
          (each_append (λ (t : Shown). t.uid < s.uid + 1) front (s ∷ []) (each_weaker (λ t. t.uid < n) (λ t. t.uid < s.uid + 1) (λ t less. omega arith) front low) (omega arith, tt)),
    )
  where
    at_past : (n u : ℕ) (front : List Shown) → AllByRecursion (λ t. t.uid < n) front → n ≤ u → at_uid u front ≡ None
    at_past n u [] low le = refl
    at_past n u (t ∷ front) low le = rw (not_same t.uid u (omega (arith, low.0, le))) (at_past n u front low.1 le)

of_rows : (view : View) (rows : List Row) → AllByRecursion (λ s. (shows view.rows s.uid ≡ true) ⊎ (view.next_uid ≤ s.uid)) (map shown rows) → AllByRecursion (λ row. (shows view.rows row.uid ≡ true) ⊎ (view.next_uid ≤ row.uid)) rows
of_rows view [] each = tt
of_rows view (row ∷ rows) each = (each.0, of_rows view rows each.1)

pub changes_follow : ChangesFollow
changes_follow before m view uid_next table more fresh are is names ordered =
    let rises = rises_of fresh (given_of view uid_next (length table) fresh are) in
    let rise = rise_of_ordered view ordered in
    let later = are.later in
    let number = is.next_uid in
    record {
      valid = is.valid;
      next_uid = omega (arith, later, number);
      rows = all_of_each (λ (row : Row). (shows view.rows row.uid ≡ true) ⊎ (view.next_uid ≤ row.uid)) m.rows
          (of_rows view m.rows (rows_known view fresh rise rises are.known 0 [] (map shown m.rows) (all_shown_rise m is.valid.rising) is.rows tt));
      more = more;
      names = is.names ∙ names;
    }
