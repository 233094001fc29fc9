-- The rows from a UID on, one after another, and that a view moves to rows in order.
use Rattle.std.proofs.Common.{◌≡◌, ℕ, zero, suc, ◌+◌, ◌-◌, ◌^◌, ◌<◌, ◌≤◌, Bool, true, false, cond, List, [], ◌∷◌, ◌++◌, length, get_or, take, map, refl, sym, ◌∙◌, ap, subst, arith}
use Rattle.std.specs.Prelude.{All, nat_le, slice_index}
use Rattle.std.specs.List.{AllByRecursion}
use Rattle.std.specs.List.Sorted.{IsStrictlyIncreasing}
use Rattle.std.proofs.lemmas.Bool.Decides.{nat_tests}
use Rattle.std.proofs.lemmas.List.{map-append, take_more}
use Rattle.std.proofs.lemmas.List.Elements.{All-weaker, filter-append}
use Rattle.dv_model.specs.declared.types.Row.{Row}
use Rattle.dv_model.specs.declared.types.Shown.{Shown}
use Rattle.dv_model.specs.declared.types.Mailbox.{Mailbox}
use Rattle.dv_model.specs.declared.types.Step.{Step}
use Rattle.dv_model.specs.declared.types.Step.TheVariants.{Held, Full}
use Rattle.dv_model.specs.Mailboxes.{IsRowOf, IsValid}
use Rattle.dv_model.specs.Views.{View, moved, said, shown}
use Rattle.dv_model.proofs.Clients.{Above, above_from, above_of_rising, all_shown_rise, each_append, each_of_all, each_weaker, from_uid, held_above, held_row, held_uid, new_above, new_from}
use Rattle.dv_view.specs.Orders.{AreRising, IsOrdered}
use Rattle.dv_view.specs.Tells.{said_of}

-- one row more is taken or passed over
pub shown_more : (b : ℕ) (rows : List Row) (k : ℕ) (row : Row) (t : Bool) → k < length rows → get_or rows k row ≡ row → nat_le b row.uid ≡ t
    → map shown (from_uid b (take (k + 1) rows)) ≡ map shown (from_uid b (take k rows)) ++ cond t (shown row ∷ []) []
shown_more b rows k row t less is test =
    ap (λ rs. map shown (from_uid b rs)) (take_more rows k row less ∙ ap (λ (r : Row). take k rows ++ r ∷ []) is)
    ∙ ap (map shown) (filter-append (λ (r : Row). nat_le b r.uid) (take k rows) (row ∷ []) ∙ ap (λ v. from_uid b (take k rows) ++ cond v (row ∷ []) []) test)
    ∙ map-append shown (from_uid b (take k rows)) (cond t (row ∷ []) [])
    ∙ ap (λ rs. map shown (from_uid b (take k rows)) ++ rs) (by_test t)
  where
    by_test : (t : Bool) → map shown (cond t (row ∷ []) []) ≡ cond t (shown row ∷ []) []
    by_test true = refl
    by_test false = refl

-- all rows are from 0 on
pub from_zero : (rows : List Row) → from_uid 0 rows ≡ rows
from_zero [] = refl
from_zero (row ∷ rows) = let low : nat_le 0 row.uid ≡ true = grind (arith, nat_tests) in rw low (ap (λ rs. row ∷ rs) (from_zero rows))

-- ---- a view that moves stays in order

pub rising_of : (n : ℕ) (rows : List Shown) → Above n rows → IsStrictlyIncreasing (map (λ s. s.uid) rows)
rising_of n [] above k below = absurd (omega (arith, below))
rising_of n (s ∷ []) above k below = absurd (omega (arith, below))
rising_of n (s ∷ t ∷ rows) above zero below = omega (arith, above.1.0)
rising_of n (s ∷ t ∷ rows) above (suc k) below =
    let next : suc (k + 1) ≡ suc k + 1 = omega arith in
    subst (λ j. slice_index (map (λ (r : Shown). r.uid) (s ∷ t ∷ rows)) (suc k) < slice_index (map (λ (r : Shown). r.uid) (s ∷ t ∷ rows)) j) next (rising_of (s.uid + 1) (t ∷ rows) above.1 k (omega (arith, below)))

pub all_of_each : {X : Type 0} (P : X → Type 0) (xs : List X) → AllByRecursion P xs → All P xs
all_of_each P [] each k d below = absurd (omega (arith, below))
all_of_each P (x ∷ xs) each zero d below = each.0
all_of_each P (x ∷ xs) each (suc k) d below = all_of_each P xs each.1 k d (omega (arith, below))

-- rows by rising UID, all below this one
pub record Rise (b : ℕ) (rows : List Shown) : Type 0 where
  pub above : Above 0 rows
  pub below : AllByRecursion (λ s. s.uid < b) rows

shown_below : (b : ℕ) (rows : List Row) → AllByRecursion (λ row. row.uid < b) rows → AllByRecursion (λ s. s.uid < b) (map shown rows)
shown_below b [] each = tt
shown_below b (row ∷ rows) each = (each.0, shown_below b rows each.1)

from_below : (a b : ℕ) (rows : List Row) → AllByRecursion (λ row. row.uid < b) rows → AllByRecursion (λ row. row.uid < b) (from_uid a rows)
from_below a b [] each = tt
from_below a b (row ∷ rows) each =
    elim (nat_le a row.uid) as (λ t. AllByRecursion (λ (r : Row). r.uid < b) (cond t (row ∷ from_uid a rows) (from_uid a rows))) [
      | true ↦ (each.0, from_below a b rows each.1)
      | false ↦ from_below a b rows each.1
    ]

held_below : (m : Mailbox) (b : ℕ) (rows : List Shown) → AllByRecursion (λ s. s.uid < b) rows → AllByRecursion (λ s. s.uid < b) (map (held_row m) rows)
held_below m b [] each = tt
held_below m b (s ∷ rows) each = (subst (λ uid. uid < b) (sym (held_uid m s)) each.0, held_below m b rows each.1)

uids_below : (m : Mailbox) → IsValid m → AllByRecursion (λ row. row.uid < m.next_uid) m.rows
uids_below m valid = each_weaker (IsRowOf m) (λ row. row.uid < m.next_uid) (λ row is. is.uid.1) m.rows (each_of_all (IsRowOf m) m.rows valid.rows)

pub moved_rise : (step : Step) (m : Mailbox) (view : View) → IsOrdered view → IsValid m → view.next_uid ≤ m.next_uid → Rise m.next_uid (moved step view m).rows
moved_rise Full m view ordered valid later = record {
  above = all_shown_rise m valid.rising;
  below = shown_below m.next_uid m.rows (uids_below m valid);
}
moved_rise Held m view ordered valid later =
    let tail = map shown (from_uid view.next_uid m.rows) in
    let low = each_of_all (λ (s : Shown). s.uid < view.next_uid) view.rows ordered.below in
    let behind = above_from 0 view.next_uid tail (new_above 0 view.next_uid m.rows (all_shown_rise m valid.rising)) (new_from view.next_uid m.rows) in
    record {
      above = held_above m 0 view.next_uid view.rows tail (omega arith) (above_of_rising view.rows ordered.rising) low behind;
      below = each_append (λ s. s.uid < m.next_uid) (map (held_row m) view.rows) tail
          (held_below m m.next_uid view.rows (each_weaker (λ s. s.uid < view.next_uid) (λ s. s.uid < m.next_uid) (λ s less. omega (arith, less, later)) view.rows low))
          (shown_below m.next_uid (from_uid view.next_uid m.rows) (from_below view.next_uid m.next_uid m.rows (uids_below m valid)));
    }

pub ordered_of_rise : (next_uid : ℕ) (rows : List Shown) → next_uid < 2 ^ 32 → Rise next_uid rows → IsOrdered (record { rows = rows; next_uid = next_uid })
ordered_of_rise next_uid rows few rise = record {
  rising = rising_of 0 rows rise.above;
  below = all_of_each (λ (s : Shown). s.uid < next_uid) rows rise.below;
  next_uid = few;
}

pub rising_of_ordered : (view : View) → IsOrdered view → AreRising view.rows
rising_of_ordered view ordered = record {
  uids = ordered.rising;
  below = All-weaker (λ (s : Shown). s.uid < view.next_uid) (λ (s : Shown). s.uid < 2 ^ 32 - 1) (λ s less. let few = ordered.next_uid in omega arith) view.rows ordered.below;
}

-- the rows that were made are those of the view behind the move
pub moved_is : (step : Step) (m : Mailbox) (view : View) (rows slice : List Shown) (n : ℕ)
    → rows ≡ (moved step (record { rows = slice; next_uid = n }) m).rows → slice ≡ view.rows → n ≡ view.next_uid → rows ≡ (moved step view m).rows
moved_is step m view rows slice n is same number =
    is ∙ ap (λ rs. (moved step (record { rows = rs; next_uid = n }) m).rows) same ∙ ap (λ k. (moved step (record { rows = view.rows; next_uid = k }) m).rows) number

pub ordered_after : (step : Step) (m : Mailbox) (view : View) (rows : List Shown) (n : ℕ)
    → rows ≡ (moved step view m).rows → n ≡ m.next_uid → IsOrdered view → IsValid m → view.next_uid ≤ m.next_uid → IsOrdered (record { rows = rows; next_uid = n })
ordered_after step m view rows n is number ordered valid later =
    let few : n < 2 ^ 32 = omega (arith, valid.next_uid.1, number) in
    ordered_of_rise n rows few (subst (λ k. Rise k rows) (sym number) (subst (Rise m.next_uid) (sym is) (moved_rise step m view ordered valid later)))

pub rising_after : (step : Step) (m : Mailbox) (view : View) (rows : List Shown)
    → rows ≡ (moved step view m).rows → IsOrdered view → IsValid m → view.next_uid ≤ m.next_uid → AreRising rows
rising_after step m view rows is ordered valid later = rising_of_ordered (record { rows = rows; next_uid = m.next_uid }) (ordered_after step m view rows m.next_uid is refl ordered valid later)

pub said_is : (m : Mailbox) (old new : View) (names : List (List ℕ)) (before after : List Shown)
    → names ≡ m.keywords → before ≡ old.rows → after ≡ new.rows → said_of names before after ≡ said m old new
said_is m old new names before after table first last =
    ap (λ ns. said_of ns before after) table ∙ ap (λ rs. said_of m.keywords rs after) first ∙ ap (said_of m.keywords old.rows) last
