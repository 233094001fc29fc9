-- A session keeps up with a mailbox: behind SELECT, records and moves.
use Rattle.std.proofs.Common.{◌≡◌, ◌⊎◌, inl, inr, ℕ, ◌<◌, ◌≤◌, Bool, true, false, cond, not, ◌&&◌, ◌||◌, List, [], ◌∷◌, length, Some, None, Option, refl, sym, ◌∙◌, ap, subst, arith}
use Rattle.std.specs.Prelude.{◌↔◌, All, Contains, IsSome, filter, is_some, map, nat_eq, option_and_then, option_map}
use Rattle.std.specs.List.Sorted.{IsStrictlyIncreasing}
use Rattle.std.proofs.lemmas.Bool.{and_cases, cases_lt, eqb-true}
use Rattle.std.proofs.lemmas.List.Elements.{All-contains, All-filter, All-nil, All-weaker}
use Rattle.std.proofs.lemmas.List.Kept.{IsStrictlyIncreasing-filter}
use Rattle.dv_model.specs.declared.types.Fresh.{Fresh}
use Rattle.dv_model.specs.declared.types.Mailbox.{Mailbox}
use Rattle.dv_model.specs.declared.types.Record.{Record}
use Rattle.dv_model.specs.declared.types.Row.{Row}
use Rattle.dv_model.specs.declared.types.Shown.{Shown}
use Rattle.dv_model.specs.declared.types.Step.{Step}
use Rattle.dv_model.specs.declared.types.Step.TheVariants.{Held, Full}
use Rattle.dv_model.specs.Effects.{after_record, applied}
use Rattle.dv_model.specs.Fresh.{AreFresh, IsTouched, shown_of}
use Rattle.dv_model.specs.Mailboxes.{IsRowOf, IsValid}
use Rattle.dv_model.specs.Views.{View, empty_view, moved, row_of, shown, shows_uid}
use Rattle.dv_model.proofs.Clients.{false_is_not_true}
use Rattle.dv_validity.proofs.Numbers.{none_returns_in_turn, records_never_fall}
use Rattle.dv_view.specs.Following.{IsPatched}
use Rattle.dv_view.specs.Orders.{IsOrdered}
use Rattle.dv_view.proofs.Finding.{any_is_found}
use Rattle.dv_view.proofs.Followed.{find_shown}
use Rattle.dv_view.proofs.Moving.{ordered_after}
use Rattle.dv_view.proofs.Patching.{at_uid}
use Rattle.dv_answer.specs.Following.{Leads, Tracks, fresh_of, is_untold, untold}
use Rattle.dv_answer.specs.Laws.{FullTellsAll, MoveTracks, RecordsLead, SelectTracks, StayLeads, TouchTracks}
use Rattle.dv_answer.proofs.Tracking.{all_by_contains, each_row, is_in, is_in_same, moved_none, moved_some, not_in, row_found, row_passes, rows_by_uid, same_by, same_is_in, tracked_fresh, tracked_patched, untouched_same}

-- ---- a row that the view shows

shows_some : (view : View) (u : ℕ) (s : Shown) → at_uid u view.rows ≡ Some s → shows_uid view u ≡ true
shows_some view u s e = any_is_found (λ (t : Shown). nat_eq t.uid u) view.rows ∙ ap is_some e

none_shown : (view : View) (u : ℕ) → shows_uid view u ≡ false → at_uid u view.rows ≡ None
none_shown view u e = by_row (at_uid u view.rows) refl
  where
    by_row : (o : Option Shown) → at_uid u view.rows ≡ o → o ≡ None
    by_row None f = refl
    by_row (Some s) f = false_is_not_true (sym e ∙ shows_some view u s f)

shown_known : (view : View) (m : Mailbox) → ((u : ℕ) (s : Shown) → shown_of m u ≡ Some s → at_uid u view.rows ≡ Some s) → All (λ row. (shows_uid view row.uid ≡ true) ⊎ (view.next_uid ≤ row.uid)) m.rows
shown_known view m same = each_row (λ row. (shows_uid view row.uid ≡ true) ⊎ (view.next_uid ≤ row.uid)) m (λ row there. inl (by_row row.uid (row_of m row.uid) refl (row_found m row there)))
  where
    by_row : (u : ℕ) (o : Option Row) → row_of m u ≡ o → is_some o ≡ true → shows_uid view u ≡ true
    by_row u None e some = absurd cc
    by_row u (Some row) e some = shows_some view u (shown row) (same u (shown row) (ap (option_map shown) e))

-- ---- SELECT

none_rises : IsStrictlyIncreasing []
none_rises k less = absurd (omega (arith, less))

empty_ordered : IsOrdered empty_view
empty_ordered = record { rising = none_rises; below = All-nil (λ (s : Shown). s.uid < 1); next_uid = omega arith }

pub select_tracks : SelectTracks
select_tracks m valid =
    let ordered : IsOrdered (moved Full empty_view m) = ordered_after Full m empty_view (map shown m.rows) m.next_uid refl refl empty_ordered valid valid.next_uid.0 in
    record {
      ordered = ordered;
      rising = none_rises;
      given = All-nil (λ (u : ℕ). (1 ≤ u) × (u < m.next_uid));
      next_uid = omega arith;
      known = shown_known (moved Full empty_view m) m (λ u s e. sym (find_shown u m.rows) ∙ e);
      rows = rows_by_uid m (moved Full empty_view m) [] ordered none_rises valid (λ u e. sym (find_shown u m.rows));
    }

-- ---- what becomes of a mailbox

pub touch_tracks : TouchTracks
touch_tracks old new view before more all tracks leads rising both =
    let later = leads.next_uid in
    let behind = tracks.next_uid in
    record {
      ordered = tracks.ordered;
      rising = rising;
      given = all_by_contains (λ u. (1 ≤ u) × (u < new.next_uid)) all (λ u there. by_given u ((both u).0 there));
      next_uid = omega arith;
      known = All-weaker (λ (row : Row). IsSome (row_of old row.uid) ⊎ (old.next_uid ≤ row.uid)) (λ (row : Row). (shows_uid view row.uid ≡ true) ⊎ (view.next_uid ≤ row.uid))
          (λ row known. by_known row.uid known (row_of old row.uid) refl) new.rows leads.rows;
      rows = rows_by_uid new view all tracks.ordered rising leads.valid (λ u out.
          untouched_same old view before tracks u (not_in u before (λ there. never u out (inl there)))
          ∙ same_by (shown_of old u) (shown_of new u) (λ differs. never u out (inr (leads.all u differs))));
    }
  where
    by_given : (u : ℕ) → Contains before u ⊎ Contains more u → (1 ≤ u) × (u < new.next_uid)
    by_given u (inl there) = let given = All-contains (λ (u : ℕ). (1 ≤ u) × (u < old.next_uid)) before u tracks.given there in let low = given.1 in let later = leads.next_uid in (given.0, omega arith)
    by_given u (inr there) = All-contains (λ (u : ℕ). (1 ≤ u) × (u < new.next_uid)) more u leads.given there

    by_known : (u : ℕ) → IsSome (row_of old u) ⊎ (old.next_uid ≤ u) → (o : Option Row) → row_of old u ≡ o → (shows_uid view u ≡ true) ⊎ (view.next_uid ≤ u)
    by_known u (inl some) None e = false_is_not_true (subst IsSome e some)
    by_known u (inl some) (Some row) e =
        let there = row_passes (λ (r : Row). (shows_uid view r.uid ≡ true) ⊎ (view.next_uid ≤ r.uid)) old u row tracks.known e in
        subst (λ v. (shows_uid view v ≡ true) ⊎ (view.next_uid ≤ v)) there.1 there.0
    by_known u (inr le) o e = let behind = tracks.next_uid in inr (omega arith)

    never : (u : ℕ) → is_in u all ≡ false → Contains before u ⊎ Contains more u → ⊥
    never u out there = false_is_not_true (sym out ∙ is_in_same u all ((both u).1 there))

pub stay_leads : StayLeads
stay_leads m valid = record {
  valid = valid;
  next_uid = omega arith;
  rows = each_row (λ row. IsSome (row_of m row.uid) ⊎ (m.next_uid ≤ row.uid)) m (λ row there. inl (row_found m row there));
  all = λ u differs. absurd (differs refl);
  given = All-nil (λ (u : ℕ). (1 ≤ u) × (u < m.next_uid));
}

pub records_lead : RecordsLead
records_lead first old new rs before all valid now_valid leads is both =
    let falls = records_never_fall old new rs valid is in
    let rise = falls.next_uid in
    let later = leads.next_uid in
    record {
      valid = now_valid;
      next_uid = omega arith;
      rows = each_row (λ row. IsSome (row_of first row.uid) ⊎ (first.next_uid ≤ row.uid)) new (λ row there. by_place row.uid (row_found new row there) (cases_lt row.uid first.next_uid) (row_of first row.uid) refl);
      all = λ u differs. by_in u differs (is_in u all) refl;
      given = all_by_contains (λ u. (1 ≤ u) × (u < new.next_uid)) all (λ u there. by_given u ((both u).0 there));
    }
  where
    -- a row that wasn't there at first wasn't later
    gone : (u : ℕ) → u < first.next_uid → row_of first u ≡ None → (o : Option Row) → row_of old u ≡ o → o ≡ None
    gone u less none None e = refl
    gone u less none (Some row) e =
        let there = row_passes (λ (r : Row). IsSome (row_of first r.uid) ⊎ (first.next_uid ≤ r.uid)) old u row leads.rows e in
        elim (subst (λ v. IsSome (row_of first v) ⊎ (first.next_uid ≤ v)) there.1 there.0) [
          | inl some ↦ false_is_not_true (subst IsSome none some)
          | inr le ↦ absurd (omega arith)
        ]

    by_place : (u : ℕ) → is_some (row_of new u) ≡ true → (u < first.next_uid) ⊎ (first.next_uid ≤ u) → (o : Option Row) → row_of first u ≡ o → IsSome (row_of first u) ⊎ (first.next_uid ≤ u)
    by_place u some (inr le) o e = inr le
    by_place u some (inl less) (Some row) e = inl (subst IsSome (sym e) refl)
    by_place u some (inl less) None e =
        let later = leads.next_uid in
        let none : row_of new u ≡ None = none_returns_in_turn old new rs u is (omega arith) (gone u less e (row_of old u) refl) in
        false_is_not_true (ap is_some (sym none) ∙ some)

    by_in : (u : ℕ) → IsTouched first new u → (b : Bool) → is_in u all ≡ b → Contains all u
    by_in u differs true e = same_is_in u all e
    by_in u differs false e =
        absurd (differs (
        same_by (shown_of first u) (shown_of old u) (λ other. false_is_not_true (sym e ∙ is_in_same u all ((both u).1 (inl (leads.all u other)))))
        ∙ same_by (shown_of old u) (shown_of new u) (λ other. false_is_not_true (sym e ∙ is_in_same u all ((both u).1 (inr other))))))

    by_rows : (u : ℕ) → IsTouched old new u → (o p : Option Row) → row_of old u ≡ o → row_of new u ≡ p → (1 ≤ u) × (u < new.next_uid)
    by_rows u differs o (Some row) e f =
        let there = row_passes (IsRowOf new) new u row now_valid.rows f in subst (λ v. (1 ≤ v) × (v < new.next_uid)) there.1 there.0.uid
    by_rows u differs (Some row) None e f =
        let there = row_passes (IsRowOf old) old u row valid.rows e in
        let given = subst (λ v. (1 ≤ v) × (v < old.next_uid)) there.1 there.0.uid in
        let low = given.1 in
        let falls = records_never_fall old new rs valid is in
        let rise = falls.next_uid in
        (given.0, omega arith)
    by_rows u differs None None e f = absurd (differs (ap (option_map shown) e ∙ sym (ap (option_map shown) f)))

    by_given : (u : ℕ) → Contains before u ⊎ IsTouched old new u → (1 ≤ u) × (u < new.next_uid)
    by_given u (inl there) =
        let given = All-contains (λ (u : ℕ). (1 ≤ u) × (u < old.next_uid)) before u leads.given there in
        let low = given.1 in
        let falls = records_never_fall old new rs valid is in
        let rise = falls.next_uid in
        (given.0, omega arith)
    by_given u (inr differs) = by_rows u differs (row_of old u) (row_of new u) refl refl

-- ---- moves

and_false : (b : Bool) → (b && false) ≡ false
and_false true = refl
and_false false = refl

in_filter : (q : ℕ → Bool) (u : ℕ) (uids : List ℕ) → is_in u (filter q uids) ≡ (is_in u uids && q u)
in_filter q u [] = refl
in_filter q u (v ∷ uids) = by_test (q v) refl (nat_eq v u) refl (in_filter q u uids)
  where
    by_test : (c : Bool) → q v ≡ c → (b : Bool) → nat_eq v u ≡ b → is_in u (filter q uids) ≡ (is_in u uids && q u)
        → is_in u (cond c (v ∷ filter q uids) (filter q uids)) ≡ ((b || is_in u uids) && q u)
    by_test true e true f rest = ap (λ b. b || is_in u (filter q uids)) f ∙ sym (ap q (sym (eqb-true v u f)) ∙ e)
    by_test true e false f rest = ap (λ b. b || is_in u (filter q uids)) f ∙ rest
    by_test false e true f rest = let fails : q u ≡ false = ap q (sym (eqb-true v u f)) ∙ e in rest ∙ ap (λ b. is_in u uids && b) fails ∙ and_false (is_in u uids) ∙ sym fails
    by_test false e false f rest = rest

moved_ordered : (step : Step) (m : Mailbox) (view : View) → IsOrdered view → IsValid m → view.next_uid ≤ m.next_uid → IsOrdered (moved step view m)
moved_ordered Held m view ordered valid later = ordered_after Held m view (moved Held view m).rows m.next_uid refl refl ordered valid later
moved_ordered Full m view ordered valid later = ordered_after Full m view (moved Full view m).rows m.next_uid refl refl ordered valid later

moved_next : (step : Step) (m : Mailbox) (view : View) → (moved step view m).next_uid ≤ m.next_uid
moved_next Held m view = omega arith
moved_next Full m view = omega arith

hidden : (b : Bool) → (b ≡ false) ⊎ (true ≡ false) → b ≡ false
hidden b (inl e) = e
hidden b (inr e) = absurd cc

module _ (step : Step) (m : Mailbox) (view : View) (touched : List ℕ) (valid : IsValid m) (tracks : Tracks m view touched) where
  abbrev behind : View
  behind = moved step view m

  by_touched : (u : ℕ) → is_in u (untold m behind touched) ≡ false → row_of m u ≡ None → (b : Bool) → is_in u touched ≡ b → at_uid u behind.rows ≡ None
  by_touched u out none false t = moved_none m view touched tracks valid step u t (ap (option_map shown) none)
  by_touched u out none true t = none_shown behind u (hidden (shows_uid behind u) (and_cases (shows_uid behind u) true (
      ap (λ (o : Option Row). shows_uid behind u && not (is_some o)) (sym none)
      ∙ ap (λ b. b && is_untold m behind u) (sym t)
      ∙ sym (in_filter (is_untold m behind) u touched)
      ∙ out)))

  by_row : (u : ℕ) → is_in u (untold m behind touched) ≡ false → (o : Option Row) → row_of m u ≡ o → at_uid u behind.rows ≡ shown_of m u
  by_row u out (Some row) e =
      let is : shown_of m u ≡ Some (shown row) = ap (option_map shown) e in moved_some m view touched tracks valid step u (shown row) is ∙ sym is
  by_row u out None e = by_touched u out e (is_in u touched) refl ∙ sym (ap (option_map shown) e)

  moved_tracks : Tracks m behind (untold m behind touched)
  moved_tracks =
      let ordered = moved_ordered step m view tracks.ordered valid tracks.next_uid in
      let rising = IsStrictlyIncreasing-filter (is_untold m behind) touched tracks.rising in
      record {
        ordered = ordered;
        rising = rising;
        given = All-filter (is_untold m behind) (λ (u : ℕ). (1 ≤ u) × (u < m.next_uid)) touched tracks.given;
        next_uid = moved_next step m view;
        known = shown_known behind m (moved_some m view touched tracks valid step);
        rows = rows_by_uid m behind (untold m behind touched) ordered rising valid (λ u out. by_row u out (row_of m u) refl);
      }

pub move_tracks : MoveTracks
move_tracks step m view touched valid tracks = moved_tracks step m view touched valid tracks

all_fail : (q : ℕ → Bool) → ((u : ℕ) → q u ≡ false) → (uids : List ℕ) → filter q uids ≡ []
all_fail q fails [] = refl
all_fail q fails (u ∷ uids) = ap (λ b. cond b (u ∷ filter q uids) (filter q uids)) (fails u) ∙ all_fail q fails uids

pub full_tells_all : FullTellsAll
full_tells_all m view touched = all_fail (is_untold m (moved Full view m)) (λ u. by_row u (row_of m u) refl) touched
  where
    by_row : (u : ℕ) (o : Option Row) → row_of m u ≡ o → (shows_uid (moved Full view m) u && not (is_some (row_of m u))) ≡ false
    by_row u (Some row) e = ap (λ o. shows_uid (moved Full view m) u && not (is_some o)) e ∙ and_false (shows_uid (moved Full view m) u)
    by_row u None e =
        let none : shows_uid (moved Full view m) u ≡ false = any_is_found (λ (t : Shown). nat_eq t.uid u) (map shown m.rows) ∙ ap is_some (sym (find_shown u m.rows) ∙ ap (option_map shown) e) in
        ap (λ b. b && not (is_some (row_of m u))) none

-- ---- what a view follows, where it is at hand under other names

module _ (m : Mailbox) (view : View) (touched uids : List ℕ) (n : ℕ) (names : List (List ℕ)) (fresh : List Fresh) (changes : fresh ≡ fresh_of m uids) (same : uids ≡ touched) (number : n ≡ m.next_uid) (table : names ≡ m.keywords) where
  given_here : fresh ≡ fresh_of m touched
  given_here = changes ∙ ap (fresh_of m) same

  pub fresh_here : IsValid m → Tracks m view touched → AreFresh view n (length names) fresh
  fresh_here valid tracks =
      subst (λ k. AreFresh view k (length names) fresh) (sym number)
      (subst (λ (ns : List (List ℕ)). AreFresh view m.next_uid (length ns) fresh) (sym table)
      (subst (λ fs. AreFresh view m.next_uid (length m.keywords) fs) (sym given_here) (tracked_fresh m view touched tracks valid)))

  pub patched_here : IsValid m → Tracks m view touched → IsPatched view n names fresh m
  patched_here valid tracks =
      subst (λ k. IsPatched view k names fresh m) (sym number)
      (subst (λ (ns : List (List ℕ)). IsPatched view m.next_uid ns fresh m) (sym table)
      (subst (λ fs. IsPatched view m.next_uid m.keywords fs m) (sym given_here) (tracked_patched m view touched tracks valid)))

-- ---- one record

pub record_leads : (old new : Mailbox) (r : Record) (before all : List ℕ) → IsValid old → IsValid new → after_record old r ≡ Some new → before ≡ []
    → ((uid : ℕ) → Contains all uid ↔ (Contains before uid ⊎ IsTouched old new uid)) → Leads old new all
record_leads old new r before all valid now_valid is none both =
    records_lead old old new (r ∷ []) [] all valid now_valid (stay_leads old valid) (ap (option_and_then (λ n. applied n [])) is)
    (subst (λ (us : List ℕ). (uid : ℕ) → Contains all uid ↔ (Contains us uid ⊎ IsTouched old new uid)) none both)
