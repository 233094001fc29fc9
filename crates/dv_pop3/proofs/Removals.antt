-- What a session's answered UID REMOVE of marked messages removes.
use Rattle.std.proofs.Common.{◌≡◌, ℕ, ◌+◌, ◌<◌, Bool, true, false, ◌&&◌, List, [], ◌∷◌, cond, filter, map, nat_eq, refl, sym, ap, ◌∙◌, arith}
use Rattle.std.specs.Prelude.{All, ◌||◌}
use Rattle.std.specs.List.{enumerate_from, list_any}
use Rattle.std.proofs.lemmas.Bool.{eqb-true}
use Rattle.std.proofs.lemmas.Bool.Decides.{nat_tests}
use Rattle.std.proofs.lemmas.List.Elements.{All-head, All-tail}
use Rattle.dv_model.specs.declared.types.Shown.{Shown}
use Rattle.dv_model.specs.declared.types.Span.{Span}
use Rattle.dv_model.specs.Sets.{is_in_set, is_in_span, largest_uid, named_by_uid, numbered}
use Rattle.dv_model.specs.Sessions.{has_uid, removed_uids}
use Rattle.dv_model.specs.Views.{View, shows_uid}
use Rattle.dv_model.specs.declared.types.Mailbox.{Mailbox}
use Rattle.dv_maildrop.specs.declared.types.Listed.{Listed}
use Rattle.dv_maildrop.specs.Maildrops.{Transaction, is_marked, marked_uids, uid_span}
use Rattle.dv_pop3.specs.Findings.{is_among}

-- ---- numbers among others

among_by : (uid u : ℕ) (p : ℕ → Bool) (rest kept : Bool) → kept ≡ (rest && p uid) → (a b : Bool) → nat_eq uid u ≡ a → p u ≡ b
    → cond b (nat_eq uid u || kept) kept ≡ ((nat_eq uid u || rest) && p uid)
among_by uid u p rest kept is true true e h =
    let same : p uid ≡ true = ap p (eqb-true uid u e) ∙ h in rw (e, same) refl
among_by uid u p rest kept is true false e h =
    let same : p uid ≡ false = ap p (eqb-true uid u e) ∙ h in
    rw e (is ∙ ap (λ (b : Bool). rest && b) same ∙ none rest ∙ sym same)
  where
    none : (b : Bool) → (b && false) ≡ false
    none true = refl
    none false = refl
among_by uid u p rest kept is false true e h = rw e is
among_by uid u p rest kept is false false e h = rw e is

pub among_kept : (uid : ℕ) (p : ℕ → Bool) (us : List ℕ) → is_among (filter p us) uid ≡ (is_among us uid && p uid)
among_kept uid p [] = refl
among_kept uid p (u ∷ us) =
    split (p u) (filter p us) ∙ among_by uid u p (is_among us uid) (is_among (filter p us) uid) (among_kept uid p us) (nat_eq uid u) (p u) refl refl
  where
    split : (b : Bool) (kept : List ℕ) → is_among (cond b (u ∷ kept) kept) uid ≡ cond b (nat_eq uid u || is_among kept uid) (is_among kept uid)
    split true kept = refl
    split false kept = refl

map_kept : {X : Type 0} (f : X → ℕ) (p : ℕ → Bool) (xs : List X) → map f (filter (λ x. p (f x)) xs) ≡ filter p (map f xs)
map_kept f p [] = refl
map_kept f p (x ∷ xs) = split (p (f x)) ∙ ap (λ (l : List ℕ). cond (p (f x)) (f x ∷ l) l) (map_kept f p xs)
  where
    split : (b : Bool) → map f (cond b (x ∷ filter (λ x. p (f x)) xs) (filter (λ x. p (f x)) xs)) ≡ cond b (f x ∷ map f (filter (λ x. p (f x)) xs)) (map f (filter (λ x. p (f x)) xs))
    split true = refl
    split false = refl

-- ---- sets of single UIDs

in_span : (star u uid : ℕ) → is_in_span star (uid_span u) uid ≡ nat_eq uid u
in_span star u uid = grind (arith, nat_tests)

pub in_spans : (star : ℕ) (us : List ℕ) (uid : ℕ) → is_in_set star (map uid_span us) uid ≡ is_among us uid
in_spans star [] uid = refl
in_spans star (u ∷ us) uid = ap (λ (b : Bool). b || is_in_set star (map uid_span us) uid) (in_span star u uid) ∙ ap (λ (b : Bool). nat_eq uid u || b) (in_spans star us uid)

-- ---- the rows of a view

numbered_uids : (n : ℕ) (rows : List Shown) → map (λ (row : ℕ × Shown). row.1.uid) (enumerate_from n rows) ≡ map (λ (s : Shown). s.uid) rows
numbered_uids n [] = refl
numbered_uids n (s ∷ rows) = ap (λ (uids : List ℕ). s.uid ∷ uids) (numbered_uids (n + 1) rows)

shown_among : (uid : ℕ) (rows : List Shown) → is_among (map (λ (s : Shown). s.uid) rows) uid ≡ list_any (λ s. nat_eq s.uid uid) rows
shown_among uid [] = refl
shown_among uid (s ∷ rows) =
    let same : nat_eq uid s.uid ≡ nat_eq s.uid uid = grind (arith, nat_tests) in
    ap (λ (b : Bool). b || is_among (map (λ (s : Shown). s.uid) rows) uid) same ∙ ap (λ (b : Bool). nat_eq s.uid uid || b) (shown_among uid rows)

pub removed_are : (us : List ℕ) (view : View) (m : Mailbox) (uid : ℕ) → is_among (removed_uids (map uid_span us) view m) uid ≡ ((shows_uid view uid && is_among us uid) && has_uid m uid)
removed_are us view m uid =
    let set : List Span = map uid_span us in
    let test : ℕ → Bool = is_in_set (largest_uid view) set in
    let named : map (λ (row : ℕ × Shown). row.1.uid) (named_by_uid set view) ≡ filter test (map (λ (s : Shown). s.uid) view.rows) =
    map_kept (λ (row : ℕ × Shown). row.1.uid) test (numbered view) ∙ ap (filter test) (numbered_uids 1 view.rows) in
    ap (λ (l : List ℕ). is_among (filter (has_uid m) l) uid) named
    ∙ among_kept uid (has_uid m) (filter test (map (λ (s : Shown). s.uid) view.rows))
    ∙ ap (λ (b : Bool). b && has_uid m uid)
    (among_kept uid test (map (λ (s : Shown). s.uid) view.rows) ∙ ap (λ (b : Bool). b && test uid) (shown_among uid view.rows) ∙ ap (λ (b : Bool). shows_uid view uid && b) (in_spans (largest_uid view) us uid))

-- ---- the marked messages

-- they were given out where all messages were
marked_by : (n uid k : ℕ) (p : ℕ × Listed → Bool) (rows : List Listed) → All (λ (row : Listed). row.uid < n) rows → is_among (map (λ (row : ℕ × Listed). row.1.uid) (filter p (enumerate_from k rows))) uid ≡ true → uid < n
marked_by n uid k p [] given among = absurd cc
marked_by n uid k p (row ∷ rows) given among = by_kept (p (k, row)) refl (marked_by n uid (k + 1) p rows (All-tail (λ (row : Listed). row.uid < n) row rows given))
  where
    others : List ℕ
    others = map (λ (row : ℕ × Listed). row.1.uid) (filter p (enumerate_from (k + 1) rows))

    by_test : (b : Bool) → nat_eq uid row.uid ≡ b → (b || is_among others uid) ≡ true → (is_among others uid ≡ true → uid < n) → uid < n
    by_test true e is rest =
        let low : row.uid < n = All-head (λ (row : Listed). row.uid < n) row rows given in
        let same : uid ≡ row.uid = eqb-true uid row.uid e in omega (arith, low, same)
    by_test false e is rest = rest is

    split : (b : Bool) → is_among (map (λ (row : ℕ × Listed). row.1.uid) (cond b ((k, row) ∷ filter p (enumerate_from (k + 1) rows)) (filter p (enumerate_from (k + 1) rows)))) uid
        ≡ cond b (nat_eq uid row.uid || is_among others uid) (is_among others uid)
    split true = refl
    split false = refl

    by_kept : (b : Bool) → p (k, row) ≡ b → (is_among others uid ≡ true → uid < n) → uid < n
    by_kept true e rest = by_test (nat_eq uid row.uid) refl (sym (split true) ∙ sym (ap (λ (b : Bool). is_among (map (λ (row : ℕ × Listed). row.1.uid) (cond b ((k, row) ∷ filter p (enumerate_from (k + 1) rows)) (filter p (enumerate_from (k + 1) rows)))) uid) e) ∙ among) rest
    by_kept false e rest = rest (sym (ap (λ (b : Bool). is_among (map (λ (row : ℕ × Listed). row.1.uid) (cond b ((k, row) ∷ filter p (enumerate_from (k + 1) rows)) (filter p (enumerate_from (k + 1) rows)))) uid) e) ∙ among)

pub marked_given : (t : Transaction) (n uid : ℕ) → All (λ (row : Listed). row.uid < n) t.rows → is_among (marked_uids t) uid ≡ true → uid < n
marked_given t n uid given among = marked_by n uid 1 (λ (row : ℕ × Listed). is_marked t row.0) t.rows given among

-- what is removed is exactly what is marked and there, where the view shows what is there
pub both_are : (shows marked has : Bool) → (shows ≡ false → marked ≡ true → has ≡ false) → ((shows && marked) && has) ≡ (marked && has)
both_are true marked has hidden = refl
both_are false true has hidden = sym (hidden refl refl)
both_are false false has hidden = refl
