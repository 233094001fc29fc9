-- A session keeps up with a mailbox: by the row of each UID.
use Rattle.std.proofs.Common.{◌≡◌, ◌≢◌, ◌⊎◌, inl, inr, ℕ, ◌<◌, ◌≤◌, Bool, true, false, cond, ◌&&◌, ◌||◌, List, [], ◌∷◌, length, get_or, suc, Some, None, Option, refl, sym, ◌∙◌, ap, subst, arith}
use Rattle.std.specs.Prelude.{All, Contains, IfSome, IsSome, bytes_eq, is_some, map, nat_eq, option_map}
use Rattle.std.specs.List.{AllByRecursion, list_any}
use Rattle.std.specs.Option.{option_or}
use Rattle.std.specs.List.Sorted.{IsStrictlyIncreasing}
use Rattle.std.proofs.lemmas.Bool.{and_parts, eqb-true, eq-eqb}
use Rattle.std.proofs.lemmas.List.Elements.{All-contains_itself, All-weaker}
use Rattle.std.proofs.lemmas.List.Folds.{list_any_at}
use Rattle.std.proofs.lemmas.Slice.Eq.{bytes_eq-Decides}
use Rattle.dv_model.specs.declared.types.Fresh.{Fresh}
use Rattle.dv_model.specs.declared.types.Mailbox.{Mailbox}
use Rattle.dv_model.specs.declared.types.Row.{Row}
use Rattle.dv_model.specs.declared.types.Shown.{Shown}
use Rattle.dv_model.specs.declared.types.Step.{Step}
use Rattle.dv_model.specs.declared.types.Step.TheVariants.{Held, Full}
use Rattle.dv_model.specs.Fresh.{AreFresh, IsFreshRow, patched, shown_of}
use Rattle.dv_model.specs.Mailboxes.{IsRowOf, IsValid}
use Rattle.dv_model.specs.Views.{View, moved, row_of, shown, shows_uid}
use Rattle.dv_model.proofs.Clients.{all_shown_rise, each_of_all, false_is_not_true}
use Rattle.dv_view.specs.Following.{AreGiven, IsPatched, told_of}
use Rattle.dv_view.specs.Orders.{IsOrdered}
use Rattle.dv_view.proofs.Finding.{any_is_found}
use Rattle.dv_view.proofs.Followed.{find_each, find_shown, kept, moved_is_after, rise_of_ordered, some_at}
use Rattle.dv_view.proofs.Moving.{all_of_each}
use Rattle.dv_view.proofs.Patching.{Rises, at_uid, change_of, now, patched_above, patched_at, same_rows}
use Rattle.dv_view.proofs.Placing.{rises_of, rises_told}
use Rattle.dv_answer.specs.Following.{Tracks, fresh_of}

-- ---- UIDs of a list

abbrev pub is_in : ℕ → List ℕ → Bool
is_in u uids = list_any (λ v. nat_eq v u) uids

pub is_in_same : (u : ℕ) (uids : List ℕ) → Contains uids u → is_in u uids ≡ true
is_in_same u uids (k, less, at) = list_any_at (λ v. nat_eq v u) uids k u less (eq-eqb (get_or uids k u) u at)

contains_cons : (v u : ℕ) (uids : List ℕ) → (v ≡ u) ⊎ Contains uids u → Contains (v ∷ uids) u
contains_cons v u uids (inl e) = (0, omega arith, e)
contains_cons v u uids (inr (k, less, at)) = (suc k, omega (arith, less), at)

pub same_is_in : (u : ℕ) (uids : List ℕ) → is_in u uids ≡ true → Contains uids u
same_is_in u [] e = false_is_not_true e
same_is_in u (v ∷ uids) e = contains_cons v u uids (by_test (nat_eq v u) refl e (same_is_in u uids))
  where
    by_test : (b : Bool) → nat_eq v u ≡ b → (b || is_in u uids) ≡ true → (is_in u uids ≡ true → Contains uids u) → (v ≡ u) ⊎ Contains uids u
    by_test true t f rest = inl (eqb-true v u t)
    by_test false t f rest = inr (rest f)

pub not_in : (u : ℕ) (uids : List ℕ) → (Contains uids u → ⊥) → is_in u uids ≡ false
not_in u uids never = by_test (is_in u uids) refl
  where
    by_test : (b : Bool) → is_in u uids ≡ b → b ≡ false
    by_test true e = absurd (never (same_is_in u uids e))
    by_test false e = refl

-- each UID of which this is so
pub all_by_contains : (P : ℕ → Type 0) (uids : List ℕ) → ((u : ℕ) → Contains uids u → P u) → All P uids
all_by_contains P uids each = All-weaker (Contains uids) P each uids (All-contains_itself uids)

-- ---- what is shown of rows is alike or not

abbrev alike : Shown → Shown → Bool
alike a b = nat_eq a.uid b.uid && nat_eq a.flags b.flags && bytes_eq a.keywords b.keywords && nat_eq a.modseq b.modseq

alike_is : (a b : Shown) → alike a b ≡ true → a ≡ b
alike_is a b e =
    let last = and_parts (nat_eq a.uid b.uid && nat_eq a.flags b.flags && bytes_eq a.keywords b.keywords) (nat_eq a.modseq b.modseq) e in
    let third = and_parts (nat_eq a.uid b.uid && nat_eq a.flags b.flags) (bytes_eq a.keywords b.keywords) last.0 in
    let second = and_parts (nat_eq a.uid b.uid) (nat_eq a.flags b.flags) third.0 in
    let uid : a.uid ≡ b.uid = eqb-true a.uid b.uid second.0 in
    let flags : a.flags ≡ b.flags = eqb-true a.flags b.flags second.1 in
    let keywords : a.keywords ≡ b.keywords = (bytes_eq-Decides a.keywords b.keywords).0 third.1 in
    let modseq : a.modseq ≡ b.modseq = eqb-true a.modseq b.modseq last.1 in
    ap (λ n. record { uid = n; flags = a.flags; keywords = a.keywords; modseq = a.modseq }) uid
    ∙ ap (λ n. record { uid = b.uid; flags = n; keywords = a.keywords; modseq = a.modseq }) flags
    ∙ ap (λ ns. record { uid = b.uid; flags = b.flags; keywords = ns; modseq = a.modseq }) keywords
    ∙ ap (λ n. record { uid = b.uid; flags = b.flags; keywords = b.keywords; modseq = n }) modseq

alike_itself : (a : Shown) → alike a a ≡ true
alike_itself a =
    rw (eq-eqb a.uid a.uid refl, eq-eqb a.flags a.flags refl, (bytes_eq-Decides a.keywords a.keywords).1 refl, eq-eqb a.modseq a.modseq refl) refl

-- what doesn't differ is the same
pub same_by : (o p : Option Shown) → (o ≢ p → ⊥) → o ≡ p
same_by None None never = refl
same_by None (Some s) never = absurd (never (λ e. cc))
same_by (Some s) None never = absurd (never (λ e. cc))
same_by (Some s) (Some t) never = ap Some (by_test (alike s t) refl)
  where
    by_test : (b : Bool) → alike s t ≡ b → s ≡ t
    by_test true e = alike_is s t e
    by_test false e = absurd (never (λ same. let is : s ≡ t = cc in false_is_not_true (sym e ∙ ap (alike s) (sym is) ∙ alike_itself s)))

-- ---- the row of a UID

-- what is found passes
pub row_passes : (P : Row → Type 0) (m : Mailbox) (u : ℕ) (row : Row) → All P m.rows → row_of m u ≡ Some row → P row × (row.uid ≡ u)
row_passes P m u row all e =
    let found = find_each P (λ (r : Row). nat_eq r.uid u) m.rows (each_of_all P m.rows all) (Some row) e in
    (found.0, eqb-true row.uid u found.1)

any_row : (m : Mailbox) → All (λ (row : Row). Unit {0}) m.rows
any_row m k d less = tt

-- a row is found by its UID
pub row_found : (m : Mailbox) (row : Row) → Contains m.rows row → is_some (row_of m row.uid) ≡ true
row_found m row (k, less, at) =
    sym (any_is_found (λ (r : Row). nat_eq r.uid row.uid) m.rows)
    ∙ list_any_at (λ (r : Row). nat_eq r.uid row.uid) m.rows k row less (eq-eqb (get_or m.rows k row).uid row.uid (ap (λ (r : Row). r.uid) at))

pub each_row : (P : Row → Type 0) (m : Mailbox) → ((row : Row) → Contains m.rows row → P row) → All P m.rows
each_row P m each = All-weaker (Contains m.rows) P each m.rows (All-contains_itself m.rows)

own_by : (u : ℕ) (m : Mailbox) (o : Option Row) → row_of m u ≡ o → IfSome (option_map shown o) (λ s. s.uid ≡ u)
own_by u m None e = tt
own_by u m (Some row) e = (row_passes (λ row. Unit {0}) m u row (any_row m) e).1

-- ---- what the mailbox has of the touched UIDs

fresh_uids : (m : Mailbox) (uids : List ℕ) → map (λ f. f.uid) (fresh_of m uids) ≡ uids
fresh_uids m [] = refl
fresh_uids m (v ∷ uids) = ap (λ vs. v ∷ vs) (fresh_uids m uids)

abbrev fresh : Mailbox → ℕ → Fresh
fresh m u = record { uid = u; row = shown_of m u }

all_fresh : (P : Fresh → Type 0) (Q : ℕ → Type 0) (m : Mailbox) (uids : List ℕ) → ((u : ℕ) → Q u → P (fresh m u)) → All Q uids → All P (fresh_of m uids)
all_fresh P Q m uids each all = all_of_each P (fresh_of m uids) (by_uids uids (each_of_all Q uids all))
  where
    by_uids : (uids : List ℕ) → AllByRecursion Q uids → AllByRecursion P (fresh_of m uids)
    by_uids [] given = tt
    by_uids (v ∷ uids) given = (each v given.0, by_uids uids given.1)

fresh_given : (m : Mailbox) (uids : List ℕ) → IsStrictlyIncreasing uids → AreGiven (fresh_of m uids)
fresh_given m uids rising = record {
  rising = subst IsStrictlyIncreasing (sym (fresh_uids m uids)) rising;
  own = all_fresh (λ f. IfSome f.row (λ s. s.uid ≡ f.uid)) (λ u. Unit {0}) m uids (λ u any. own_by u m (row_of m u) refl) (λ k d less. tt);
}

fresh_rises : (m : Mailbox) (uids : List ℕ) → IsStrictlyIncreasing uids → Rises 0 (fresh_of m uids)
fresh_rises m uids rising = rises_of (fresh_of m uids) (fresh_given m uids rising)

-- what is there of a UID behind the changes
fresh_now : (m : Mailbox) (u : ℕ) (before : Option Shown) (uids : List ℕ) → now (change_of u (fresh_of m uids)) before ≡ cond (is_in u uids) (shown_of m u) before
fresh_now m u before [] = refl
fresh_now m u before (v ∷ uids) = by_test (nat_eq v u) refl (fresh_now m u before uids)
  where
    by_test : (b : Bool) → nat_eq v u ≡ b → now (change_of u (fresh_of m uids)) before ≡ cond (is_in u uids) (shown_of m u) before
        → now (cond b (Some (fresh m v)) (change_of u (fresh_of m uids))) before ≡ cond (b || is_in u uids) (shown_of m u) before
    by_test true e rest = ap (shown_of m) (eqb-true v u e)
    by_test false e rest = rest

-- no row leaves by a Held step
held_now : (m : Mailbox) (u : ℕ) (before : Option Shown) (uids : List ℕ) → now (kept (change_of u (fresh_of m uids))) before ≡ cond (is_in u uids) (option_or (shown_of m u) before) before
held_now m u before [] = refl
held_now m u before (v ∷ uids) = by_test (nat_eq v u) refl (held_now m u before uids)
  where
    by_row : (o : Option Shown) → shown_of m v ≡ o → now (cond (is_some o) (Some (fresh m v)) None) before ≡ option_or o before
    by_row None e = refl
    by_row (Some s) e = e

    by_test : (b : Bool) → nat_eq v u ≡ b → now (kept (change_of u (fresh_of m uids))) before ≡ cond (is_in u uids) (option_or (shown_of m u) before) before
        → now (kept (cond b (Some (fresh m v)) (change_of u (fresh_of m uids)))) before ≡ cond (b || is_in u uids) (option_or (shown_of m u) before) before
    by_test true e rest = by_row (shown_of m v) refl ∙ ap (λ w. option_or (shown_of m w) before) (eqb-true v u e)
    by_test false e rest = rest

module _ (m : Mailbox) (view : View) (uids : List ℕ) (ordered : IsOrdered view) (rising : IsStrictlyIncreasing uids) where
  at_patched : (u : ℕ) → at_uid u (patched view.rows (fresh_of m uids)) ≡ cond (is_in u uids) (shown_of m u) (at_uid u view.rows)
  at_patched u =
      patched_at 0 0 u view.rows (fresh_of m uids) (rise_of_ordered view ordered).above (omega arith) (fresh_rises m uids rising)
      ∙ fresh_now m u (at_uid u view.rows) uids

  -- the mailbox's rows are the view's with the touched ones as they are now, where the others are as the view shows them
  pub rows_by_uid : IsValid m → ((u : ℕ) → is_in u uids ≡ false → at_uid u view.rows ≡ shown_of m u) → map shown m.rows ≡ patched view.rows (fresh_of m uids)
  rows_by_uid valid same =
      same_rows 0 (map shown m.rows) (patched view.rows (fresh_of m uids)) (all_shown_rise m valid.rising)
      (patched_above 0 view.rows (fresh_of m uids) (rise_of_ordered view ordered).above (fresh_rises m uids rising))
      (λ u. sym (find_shown u m.rows) ∙ by_test u (is_in u uids) refl ∙ sym (at_patched u))
    where
      by_test : (u : ℕ) (b : Bool) → is_in u uids ≡ b → shown_of m u ≡ cond b (shown_of m u) (at_uid u view.rows)
      by_test u true e = refl
      by_test u false e = sym (same u e)

-- ---- a session that tracks the mailbox

module _ (m : Mailbox) (view : View) (touched : List ℕ) (tracks : Tracks m view touched) where
  -- a row that wasn't touched is as the view shows it
  pub untouched_same : (u : ℕ) → is_in u touched ≡ false → at_uid u view.rows ≡ shown_of m u
  untouched_same u e =
      sym (find_shown u m.rows ∙ ap (at_uid u) tracks.rows ∙ at_patched m view touched tracks.ordered tracks.rising u ∙ ap (λ b. cond b (shown_of m u) (at_uid u view.rows)) e)

  known_row : (u : ℕ) (row : Row) → row_of m u ≡ Some row → (shows_uid view u ≡ true) ⊎ (view.next_uid ≤ u)
  known_row u row e =
      let there = row_passes (λ (r : Row). (shows_uid view r.uid ≡ true) ⊎ (view.next_uid ≤ r.uid)) m u row tracks.known e in
      subst (λ v. (shows_uid view v ≡ true) ⊎ (view.next_uid ≤ v)) there.1 there.0

  module _ (valid : IsValid m) where
    -- the view can follow
    pub tracked_fresh : AreFresh view m.next_uid (length m.keywords) (fresh_of m touched)
    tracked_fresh = record {
      later = tracks.next_uid;
      rising = subst IsStrictlyIncreasing (sym (fresh_uids m touched)) tracks.rising;
      given = all_fresh (λ f. (1 ≤ f.uid) × (f.uid < m.next_uid)) (λ u. (1 ≤ u) × (u < m.next_uid)) m touched (λ u given. given) tracks.given;
      rows = all_fresh (λ f. IfSome f.row (IsFreshRow (length m.keywords) f.uid)) (λ u. Unit {0}) m touched (λ u any. by_row u (row_of m u) refl) (λ k d less. tt);
      known = all_fresh (λ f. IsSome f.row → (shows_uid view f.uid ≡ true) ⊎ (view.next_uid ≤ f.uid)) (λ u. Unit {0}) m touched (λ u any. by_known u (row_of m u) refl) (λ k d less. tt);
    }
      where
        by_row : (u : ℕ) (o : Option Row) → row_of m u ≡ o → IfSome (option_map shown o) (IsFreshRow (length m.keywords) u)
        by_row u None e = tt
        by_row u (Some row) e = let there = row_passes (IsRowOf m) m u row valid.rows e in record { is = there.1; keywords = there.0.keywords }

        by_known : (u : ℕ) (o : Option Row) → row_of m u ≡ o → IsSome (option_map shown o) → (shows_uid view u ≡ true) ⊎ (view.next_uid ≤ u)
        by_known u None e some = false_is_not_true some
        by_known u (Some row) e some = known_row u row e

    pub tracked_patched : IsPatched view m.next_uid m.keywords (fresh_of m touched) m
    tracked_patched = record { valid = valid; rows = tracks.rows; next_uid = refl; names = refl }

    held_at : (u : ℕ) → at_uid u (moved Held view m).rows ≡ cond (is_in u touched) (option_or (shown_of m u) (at_uid u view.rows)) (at_uid u view.rows)
    held_at u =
        let rises = fresh_rises m touched tracks.rising in
        ap (at_uid u) (moved_is_after view m.next_uid m.keywords (fresh_of m touched) m tracks.ordered tracks.next_uid rises tracked_fresh.known tracked_patched Held)
        ∙ patched_at 0 0 u view.rows (told_of Held (fresh_of m touched)) (rise_of_ordered view tracks.ordered).above (omega arith) (rises_told Held 0 (fresh_of m touched) rises)
        ∙ ap (λ o. now o (at_uid u view.rows)) (some_at 0 u (fresh_of m touched) rises)
        ∙ held_now m u (at_uid u view.rows) touched

    -- behind a move the view shows each row of the mailbox as it is
    pub moved_some : (step : Step) (u : ℕ) (s : Shown) → shown_of m u ≡ Some s → at_uid u (moved step view m).rows ≡ Some s
    moved_some Full u s e = sym (find_shown u m.rows) ∙ e
    moved_some Held u s e = held_at u ∙ by_test (is_in u touched) refl
      where
        by_test : (b : Bool) → is_in u touched ≡ b → cond b (option_or (shown_of m u) (at_uid u view.rows)) (at_uid u view.rows) ≡ Some s
        by_test true t = ap (λ o. option_or o (at_uid u view.rows)) e
        by_test false t = untouched_same u t ∙ e

    -- and none that wasn't touched and isn't there
    pub moved_none : (step : Step) (u : ℕ) → is_in u touched ≡ false → shown_of m u ≡ None → at_uid u (moved step view m).rows ≡ None
    moved_none Full u t e = sym (find_shown u m.rows) ∙ e
    moved_none Held u t e = held_at u ∙ ap (λ b. cond b (option_or (shown_of m u) (at_uid u view.rows)) (at_uid u view.rows)) t ∙ untouched_same u t ∙ e
