-- A running entry is durable.
use Rattle.std.proofs.Common.{◌≡◌, ℕ, ◌+◌, ◌-◌, ◌≤◌, Bool, true, false, cond, List, [], ◌∷◌, ◌++◌, length, map, nat_eq, Option, Some, None, refl, sym, ◌∙◌, ap, subst, arith, length-append}
use Rattle.std.specs.Global.{Vec}
use Rattle.std.specs.Prelude.{All, IfSome, option_map, position, slice_get, slice_set}
use Rattle.std.proofs.lemmas.List.Elements.{All-set, All-weaker}
use Rattle.std.proofs.lemmas.List.{length-map}
use Rattle.dv_model.specs.declared.types.Command.{Command}
use Rattle.dv_model.specs.declared.types.Mailbox.{Mailbox}
use Rattle.dv_model.specs.Journals.{Log, at}
use Rattle.std.proofs.lemmas.Option.{none-some, same_Some}
use Rattle.dv_model.proofs.Speaking.{one_of}
use Rattle.dv_apply.specs.States.{Held}
use Rattle.dv_validity.proofs.Logs.{Extends}
use Rattle.dv_responses.specs.Met.{met_of}
use Rattle.dv_interleavings.specs.Worlds.{World, Session, Pending as ModelPending, Sync, happens, length_of, synced, with_session}
use Rattle.dv_promises.specs.Standing.{HasAuthor, Stands}
use Rattle.dv_promises.proofs.Ending.{keeps}
use Rattle.dv_promises.proofs.Logs.{with_entry_is, with_last}
use Rattle.dv_promises.proofs.Syncing.{value_of}
use Rattle.dv_world.specs.declared.kept.Kept.{Kept}
use Rattle.dv_world.specs.declared.kept.Logged.{Logged}
use Rattle.dv_world.specs.declared.kept.Pending.{Pending}
use Rattle.dv_world.specs.declared.kept.Seat.{Seat}
use Rattle.dv_world.specs.declared.kept.Wrote.{Wrote}
use Rattle.dv_world.specs.Adding.{IsAdded, running_author}
use Rattle.dv_world.specs.Keeping.{HasTaken, IsKept, IsLogged, IsPending, IsSeat, kept_log}
use Rattle.dv_world.specs.Shapes.{kept_world, pending_of, seated, session_at, session_of, wrote_of}
use Rattle.dv_world.proofs.Adds.{end_is, extends, more}
use Rattle.dv_world.proofs.Found.{found, is_of, none, number_is, replaced}
use Rattle.dv_world.proofs.Stays.{world_parts}

synced_none : (w : World) → w.pending ≡ None → synced w ≡ w
synced_none w is = rw is refl

synced_stopped : (w : World) (p : ModelPending) → w.pending ≡ Some p → p.running ≡ false → synced w ≡ w
synced_stopped w p is stopped = rw (is, stopped) refl

synced_is : (w : World) (p : ModelPending) (m : Mailbox) (session : Session) → w.pending ≡ Some p → p.running ≡ true → at w.log (length w.log.entries) ≡ Some m → w.sessions p.author ≡ Some session
    → synced w ≡ with_session (record w { log = with_last w.log p m; pending = None }) p.author (Some (record session {
      wrote = Some (record { place = length (with_last w.log p m).entries; met = length (with_last w.log p m).entries - 1; command = p.command });
    }))
synced_is w p m session is runs there here = rw (is, runs, with_entry_is w.log p m there, here) refl

-- no entry runs
pub syncs_nothing : (k : Kept) → running_author k.pending ≡ None → kept_world k ≡ happens (kept_world k) Sync
syncs_nothing k none = by_pending k.pending refl none
  where
    by_pending : (o : Option Pending) → k.pending ≡ o → running_author o ≡ None → kept_world k ≡ happens (kept_world k) Sync
    by_pending None is none = sym (synced_none (kept_world k) (ap (option_map pending_of) is))
    by_pending (Some p) is none = by_running p.running refl none
      where
        by_running : (b : Bool) → p.running ≡ b → cond b (Some p.author) None ≡ None → kept_world k ≡ happens (kept_world k) Sync
        by_running true runs none = absurd cc
        by_running false stopped none = sym (synced_stopped (kept_world k) (pending_of p) (ap (option_map pending_of) is) stopped)

-- one does
pub running_is : (o : Option Pending) (author : ℕ) → running_author o ≡ Some author → (p : Pending) × (o ≡ Some p) × (p.running ≡ true) × (p.author ≡ author)
running_is None author e = absurd cc
running_is (Some p) author e = by_running p.running refl e
  where
    by_running : (b : Bool) → p.running ≡ b → cond b (Some p.author) None ≡ Some author → (q : Pending) × (Some p ≡ Some q) × (q.running ≡ true) × (q.author ≡ author)
    by_running true runs e = (p, refl, runs, same_Some p.author author e)
    by_running false stopped e = absurd cc

-- its author lives
pub author_there : (k : Kept) → IsKept k → (p : Pending) → k.pending ≡ Some p → position (is_of p.author) k.seats.items ≡ None → ⊥
author_there k kept p is nowhere =
    let author = value_of (HasAuthor (kept_world k)) (option_map pending_of k.pending) (pending_of p) (ap (option_map pending_of) is) kept.stands.author in
    none-some author.0 (sym (none k.seats.items p.author nowhere) ∙ author.1)

-- sessions stand over the longer log
pub seat_more : (log more : Log) → Extends log more → (seat : Seat) → IsSeat log seat → IsSeat more seat
seat_more log more on seat was = record {
  inside = omega (arith, was.inside, on.longer);
  live = on.same_at seat.seen was.inside ∙ was.live;
  abreast = was.abreast;
  taken = by_wrote seat.wrote was.taken;
}
  where
    by_wrote : (o : Option Wrote) → IfSome o (HasTaken log seat.session.state.view) → IfSome o (HasTaken more seat.session.state.view)
    by_wrote None taken = tt
    by_wrote (Some w) taken = (omega (arith, taken.0, on.longer), λ m there. taken.1 m (sym (on.same_at w.met taken.0) ∙ there))

module _ (k : Kept) (kept : IsKept k) (p : Pending) (pending : k.pending ≡ Some p) (runs : p.running ≡ true) (mid : Kept) (wrote : Option Wrote) (added : IsAdded k p mid wrote)
    (place : ℕ) (seat : Seat) (found_there : position (is_of p.author) k.seats.items ≡ Some place) (there : slice_get k.seats.items place ≡ Some seat)
    (new : Kept) (log : kept_log new ≡ kept_log mid) (logged : new.logged ≡ mid.logged) (front : new.front ≡ mid.front) (end : new.end ≡ mid.end) (gone : new.pending ≡ mid.pending)
    (published : new.published ≡ mid.published) (seats : new.seats.items ≡ slice_set mid.seats.items place (record seat { wrote = wrote })) where
  is : (kept_world k).sessions p.author ≡ Some (session_of seat)
  is = found k.seats.items p.author place seat found_there there

  ends : length (kept_log k).entries ≡ length k.logged.items
  ends = length-map k.logged.items (λ (l : Logged). l.entry)

  abbrev longer : Log
  longer = more k kept p pending

  on : Extends (kept_log k) longer
  on = extends k kept p pending

  log_is : kept_log new ≡ longer
  log_is = log ∙ added.log

  length_is : length longer.entries ≡ length k.logged.items + 1
  length_is = omega (arith, ends, length-append (kept_log k).entries (record { author = p.author; group = p.group } ∷ []))

  abbrev after : Seat
  after = record seat { wrote = wrote }

  abbrev done : Session
  done = record (session_of seat) { wrote = Some (record { place = length longer.entries; met = length longer.entries - 1; command = p.command }) }

  session_is : session_of after ≡ done
  session_is =
      let numbers : length k.logged.items + 1 ≡ length longer.entries = sym length_is in
      let met : length k.logged.items ≡ length longer.entries - 1 = omega (arith, length_is) in
      ap (λ (o : Option Wrote). record (session_of seat) { wrote = option_map wrote_of o }) added.wrote
      ∙ ap (λ (n : ℕ). record (session_of seat) { wrote = Some (record { place = n; met = length k.logged.items; command = p.command }) }) numbers
      ∙ ap (λ (n : ℕ). record (session_of seat) { wrote = Some (record { place = length longer.entries; met = n; command = p.command }) }) met

  seats_are : new.seats.items ≡ slice_set k.seats.items place after
  seats_are = seats ∙ ap (λ (v : Vec Seat). slice_set v.items place after) added.seats

  sessions_are : session_at (map seated new.seats.items) ≡ (λ t. cond (nat_eq p.author t) (Some done) (session_at (map seated k.seats.items) t))
  sessions_are =
      ap (λ (xs : List Seat). session_at (map seated xs)) seats_are
      ∙ replaced k.seats.items p.author place seat after found_there (number_is k.seats.items p.author place seat found_there there)
      ∙ ap (λ (x : Session). λ t. cond (nat_eq p.author t) (Some x) (session_at (map seated k.seats.items) t)) session_is

  none_pending : new.pending ≡ None
  none_pending = gone ∙ added.pending

  pub world_synced : kept_world new ≡ happens (kept_world k) Sync
  world_synced =
      world_parts new longer None k.published _ log_is (ap (option_map pending_of) none_pending) (published ∙ added.published) sessions_are
      ∙ sym (synced_is (kept_world k) (pending_of p) k.end.mailbox (session_of seat) (ap (option_map pending_of) pending) runs (end_is k kept p pending) is)

  pub kept_synced : IsKept new
  kept_synced = record {
    stands = subst Stands (sym world_synced) (keeps (kept_world k) Sync kept.stands tt);
    front =
        ap (λ (l : Log). at l new.published) log_is ∙ ap (at longer) (published ∙ added.published) ∙ on.same_at k.published kept.stands.published ∙ kept.front
        ∙ ap (λ (l : Held). Some l.mailbox) (sym (front ∙ added.front));
    end = ap (λ (l : Log). at l (length new.logged.items)) log ∙ ap (λ (v : Vec Logged). at (kept_log mid) (length v.items)) logged ∙ added.end ∙ ap (λ (l : Held). Some l.mailbox) (sym end);
    logged = λ j l here. subst (λ (g : Log). IsLogged g j l) (sym log) (added.logged j l (sym (ap (λ (v : Vec Logged). slice_get v.items j) logged) ∙ here));
    pending = subst (λ (o : Option Pending). IfSome o (IsPending (kept_log new) new.end.mailbox (map seated new.seats.items))) (sym none_pending) tt;
    seats = subst (λ (l : Log). All (IsSeat l) new.seats.items) (sym log_is) (subst (All (IsSeat longer)) (sym seats_are) (All-set (IsSeat longer) k.seats.items place after (record {
      inside = older.inside;
      live = older.live;
      abreast = older.abreast;
      taken = subst (λ (o : Option Wrote). IfSome o (HasTaken longer seat.session.state.view)) (sym added.wrote) (
        omega (arith, length_is),
        λ m was. taken_is ∙ ap (met_of p.command seat.session.state.view) (same_Some k.end.mailbox m (sym kept.end ∙ sym (on.same_at (length k.logged.items) (omega (arith, ends))) ∙ was)),
      );
    }) (All-weaker (IsSeat (kept_log k)) (IsSeat longer) (seat_more (kept_log k) longer on) k.seats.items kept.seats)));
  }
    where
      older : IsSeat longer seat
      older = seat_more (kept_log k) longer on seat (one_of (IsSeat (kept_log k)) k.seats.items place seat kept.seats there)

      taken_is : p.taken ≡ met_of p.command seat.session.state.view k.end.mailbox
      taken_is = (value_of (IsPending (kept_log k) k.end.mailbox (map seated k.seats.items)) k.pending p pending kept.pending).taken runs (session_of seat) is
