-- The program ends.
use Rattle.std.proofs.Common.{◌≡◌, ℕ, ◌+◌, List, [], length, map, nat_eq, Bool, true, false, cond, Option, Some, None, refl, sym, ◌∙◌, ap, subst, arith}
use Rattle.std.specs.Global.{Vec}
use Rattle.std.specs.Prelude.{All, IfSome, option_map, slice_get}
use Rattle.std.proofs.lemmas.Bool.Decides.{nat_tests}
use Rattle.std.proofs.lemmas.List.Elements.{All-nil}
use Rattle.std.proofs.lemmas.List.{length-map}
use Rattle.dv_model.specs.declared.types.Mailbox.{Mailbox}
use Rattle.dv_model.specs.declared.types.Mark.{Mark}
use Rattle.dv_model.specs.Journals.{Log, at}
use Rattle.dv_apply.specs.States.{Held}
use Rattle.dv_interleavings.specs.Worlds.{World, Crash, guid_of, happens, mail_of, only_log, with_entry}
use Rattle.dv_promises.specs.Standing.{Stands}
use Rattle.dv_promises.proofs.Ending.{crash_all, crash_none, crash_some, keeps}
use Rattle.dv_promises.proofs.Logs.{with_entry_is}
use Rattle.dv_world.specs.declared.kept.Kept.{Kept}
use Rattle.dv_world.specs.declared.kept.Logged.{Logged}
use Rattle.dv_world.specs.declared.kept.Pending.{Pending}
use Rattle.dv_world.specs.declared.kept.Seat.{Seat}
use Rattle.dv_world.specs.declared.kept.Wrote.{Wrote}
use Rattle.dv_world.specs.Adding.{IsAdded, Leaves}
use Rattle.dv_world.specs.Keeping.{IsKept, IsLogged, IsPending, IsSeat, kept_log}
use Rattle.dv_world.specs.Shapes.{kept_world, pending_of, seated, session_at, stored_of}
use Rattle.dv_world.proofs.Adds.{end_is}
use Rattle.dv_world.proofs.Stays.{world_parts}

-- ---- a log alone

module _ (mid new : Kept) (front : Held) (leaves : Leaves mid new front) where
  pub left_log : kept_log new ≡ kept_log mid
  left_log =
      ap (λ (m : Mailbox). record (kept_log new) { start = m }) leaves.start.0
      ∙ ap (λ (m : Mark). record (kept_log new) { start = mid.start; start_mark = m }) leaves.start.1
      ∙ ap (λ (n : ℕ). record (kept_log new) { start = mid.start; start_mark = mid.start_mark; indexid = n }) leaves.files.0
      ∙ ap (λ (v : Vec Logged). record (kept_log new) { start = mid.start; start_mark = mid.start_mark; indexid = mid.indexid; entries = map (λ (l : Logged). l.entry) v.items }) leaves.logged
      ∙ ap (λ (v : Vec (ℕ × Option (List ℕ) × List ℕ)). record (kept_log mid) { mail = mail_of (map stored_of v.items); guid = guid_of (map stored_of v.items) }) leaves.files.1

  left_world : kept_world new ≡ only_log (kept_log mid)
  left_world =
      world_parts new (kept_log mid) None (length (kept_log mid).entries) (λ s. None) left_log (ap (option_map pending_of) leaves.pending)
      (leaves.published ∙ sym (length-map mid.logged.items (λ (l : Logged). l.entry))) (ap (λ (xs : List Seat). session_at (map seated xs)) leaves.seats)

  -- it is kept where the log's mailboxes are
  pub left_kept : (logs : (j : ℕ) (l : Logged) → slice_get mid.logged.items j ≡ Some l → IsLogged (kept_log mid) j l)
      → at (kept_log mid) (length mid.logged.items) ≡ Some mid.end.mailbox → front.mailbox ≡ mid.end.mailbox
      → (w : World) → only_log (kept_log mid) ≡ w → Stands w → (kept_world new ≡ w) × IsKept new
  left_kept logs end same w is stands = (
    world,
    record {
      stands = subst Stands (sym world) stands;
      front = ap (λ (l : Log). at l new.published) left_log ∙ ap (at (kept_log mid)) leaves.published ∙ end ∙ ap Some (sym same) ∙ ap (λ (l : Held). Some l.mailbox) (sym leaves.front);
      end = ap (λ (l : Log). at l (length new.logged.items)) left_log ∙ ap (λ (v : Vec Logged). at (kept_log mid) (length v.items)) leaves.logged ∙ end ∙ ap (λ (l : Held). Some l.mailbox) (sym leaves.end);
      logged = λ j l here. subst (λ (g : Log). IsLogged g j l) (sym left_log) (logs j l (sym (ap (λ (v : Vec Logged). slice_get v.items j) leaves.logged) ∙ here));
      pending = subst (λ (o : Option Pending). IfSome o (IsPending (kept_log new) new.end.mailbox (map seated new.seats.items))) (sym leaves.pending) tt;
      seats = subst (All (IsSeat (kept_log new))) (sym leaves.seats) (All-nil (IsSeat (kept_log new)));
    },
  )
    where
      world : kept_world new ≡ w
      world = left_world ∙ is

-- ---- the event

pub not_so_many : (logged : List Logged) → nat_eq (length logged + 1) (length (map (λ (l : Logged). l.entry) logged)) ≡ false
not_so_many logged = let e = length-map logged (λ (l : Logged). l.entry) in grind (arith, nat_tests)

pub one_more : (logged : List Logged) → nat_eq (length logged + 1) (length (map (λ (l : Logged). l.entry) logged) + 1) ≡ true
one_more logged = let e = length-map logged (λ (l : Logged). l.entry) in grind (arith, nat_tests)

module _ (k : Kept) (kept : IsKept k) (count : ℕ) where
  -- all durable entries stay
  pub crashed_whole : (new : Kept) (front : Held) → Leaves k new front → front.mailbox ≡ k.end.mailbox → nat_eq count (length (map (λ (l : Logged). l.entry) k.logged.items)) ≡ true
      → (kept_world new ≡ happens (kept_world k) (Crash count)) × IsKept new
  crashed_whole new front leaves same all =
      left_kept k new front leaves kept.logged kept.end same (happens (kept_world k) (Crash count)) (sym (crash_all (kept_world k) count all)) (keeps (kept_world k) (Crash count) kept.stands tt)

  -- nothing was pending
  pub crashed_none : nat_eq count (length (map (λ (l : Logged). l.entry) k.logged.items)) ≡ false → k.pending ≡ None → kept_world k ≡ happens (kept_world k) (Crash count)
  crashed_none less is = sym (crash_none (kept_world k) count less (ap (option_map pending_of) is))

  -- neither so many, nor one more
  pub crashed_other : nat_eq count (length (map (λ (l : Logged). l.entry) k.logged.items)) ≡ false → nat_eq count (length (map (λ (l : Logged). l.entry) k.logged.items) + 1) ≡ false
      → kept_world k ≡ happens (kept_world k) (Crash count)
  crashed_other less other = by_pending k.pending refl
    where
      by_pending : (o : Option Pending) → k.pending ≡ o → kept_world k ≡ happens (kept_world k) (Crash count)
      by_pending None is = crashed_none less is
      by_pending (Some p) is =
          sym (crash_some (kept_world k) count (pending_of p) less (ap (option_map pending_of) is)
          ∙ ap (λ (b : Bool). cond b (only_log (with_entry (kept_log k) (pending_of p))) (kept_world k)) other)

  -- the pending one too
  pub crashed_more : (p : Pending) (is : k.pending ≡ Some p) (mid new : Kept) (wrote : Option Wrote) (front : Held) → IsAdded k p mid wrote → Leaves mid new front → front.mailbox ≡ mid.end.mailbox
      → nat_eq count (length (map (λ (l : Logged). l.entry) k.logged.items)) ≡ false → nat_eq count (length (map (λ (l : Logged). l.entry) k.logged.items) + 1) ≡ true
      → (kept_world new ≡ happens (kept_world k) (Crash count)) × IsKept new
  crashed_more p is mid new wrote front added leaves same less one =
      left_kept mid new front leaves added.logged added.end same (happens (kept_world k) (Crash count))
      (sym (crash_some (kept_world k) count (pending_of p) less (ap (option_map pending_of) is)
      ∙ ap (λ (b : Bool). cond b (only_log (with_entry (kept_log k) (pending_of p))) (kept_world k)) one
      ∙ ap only_log (with_entry_is (kept_log k) (pending_of p) k.end.mailbox (end_is k kept p is)) ∙ ap only_log (sym added.log)))
      (keeps (kept_world k) (Crash count) kept.stands tt)
