-- The log stays as it is, with its mailboxes.
use Rattle.std.proofs.Common.{◌≡◌, ℕ, List, length, map, Option, Some, refl, sym, ◌∙◌, ap, subst}
use Rattle.std.specs.Global.{Vec}
use Rattle.std.specs.Prelude.{All, IfSome, option_map, slice_get}
use Rattle.dv_interleavings.specs.Worlds.{World, Session, Pending as ModelPending}
use Rattle.dv_model.specs.declared.types.Mailbox.{Mailbox}
use Rattle.dv_model.specs.Journals.{Log, at}
use Rattle.dv_promises.specs.Standing.{Stands}
use Rattle.dv_apply.specs.States.{Held}
use Rattle.dv_world.specs.declared.kept.Kept.{Kept}
use Rattle.dv_world.specs.declared.kept.Logged.{Logged}
use Rattle.dv_world.specs.declared.kept.Pending.{Pending}
use Rattle.dv_world.specs.declared.kept.Seat.{Seat}
use Rattle.dv_world.specs.Keeping.{IsKept, IsLogged, IsPending, IsSeat, Stays, kept_log}
use Rattle.dv_world.specs.Shapes.{Plain, kept_world, log_of, pending_of, plain_of, seated, session_at, world_of}

-- what is pending, and the sessions, stand over the old log
pub kept_same : (old new : Kept) → IsKept old → Stays old new → Stands (kept_world new)
    → IfSome new.pending (IsPending (kept_log old) old.end.mailbox (map seated new.seats.items))
    → All (IsSeat (kept_log old)) new.seats.items
    → IsKept new
kept_same old new kept same stands pending seats = record {
  stands = stands;
  front = ap (λ (l : Log). at l new.published) same.log ∙ ap (at (kept_log old)) same.published ∙ kept.front ∙ ap (λ (l : Held). Some l.mailbox) (sym same.front);
  end = ap (λ (l : Log). at l (length new.logged.items)) same.log ∙ ap (λ n. at (kept_log old) n) lengths ∙ kept.end ∙ ap (λ (l : Held). Some l.mailbox) (sym same.end);
  logged = λ j l there. subst (λ (log : Log). IsLogged log j l) (sym same.log) (kept.logged j l (sym (ap (λ xs. slice_get xs j) items) ∙ there));
  pending = subst (λ (log : Log). IfSome new.pending (IsPending log new.end.mailbox (map seated new.seats.items))) (sym same.log)
      (subst (λ (l : Held). IfSome new.pending (IsPending (kept_log old) l.mailbox (map seated new.seats.items))) (sym same.end) pending);
  seats = subst (λ (log : Log). All (IsSeat log) new.seats.items) (sym same.log) seats;
}
  where
    items : new.logged.items ≡ old.logged.items
    items = ap (λ (v : Vec Logged). v.items) same.logged

    lengths : length new.logged.items ≡ length old.logged.items
    lengths = ap length items

-- a world of its parts
abbrev pub world_with : Log → Option ModelPending → ℕ → (ℕ → Option Session) → World
world_with log pending published sessions = record { log = log; pending = pending; published = published; sessions = sessions }

pub world_parts : (new : Kept) (log : Log) (pending : Option ModelPending) (published : ℕ) (sessions : ℕ → Option Session)
    → kept_log new ≡ log → option_map pending_of new.pending ≡ pending → new.published ≡ published → session_at (map seated new.seats.items) ≡ sessions
    → kept_world new ≡ world_with log pending published sessions
world_parts new log pending published sessions same is number are =
    ap (λ (l : Log). world_with l (option_map pending_of new.pending) new.published (session_at (map seated new.seats.items))) same
    ∙ ap (λ (n : ℕ). world_with log (option_map pending_of new.pending) n (session_at (map seated new.seats.items))) number
    ∙ ap (λ (o : Option ModelPending). world_with log o published (session_at (map seated new.seats.items))) is
    ∙ ap (λ (f : ℕ → Option Session). world_with log pending published f) are

pub world_by : (old new : Kept) → Stays old new → (pending : Option ModelPending) → option_map pending_of new.pending ≡ pending
    → (sessions : ℕ → Option Session) → session_at (map seated new.seats.items) ≡ sessions
    → kept_world new ≡ world_with (kept_log old) pending old.published sessions
world_by old new stays pending is sessions are = world_parts new (kept_log old) pending old.published sessions stays.log is stays.published are

-- all is as before, but for memory that was taken
pub kept_alike : (k new : Kept) → IsKept k → plain_of new ≡ plain_of k → new.logged.items ≡ k.logged.items → new.front.mailbox ≡ k.front.mailbox → new.end.mailbox ≡ k.end.mailbox
    → new.pending ≡ k.pending → new.seats.items ≡ k.seats.items → IsKept new
kept_alike k new kept same logged front end pending seats = record {
  stands = subst Stands (sym (ap world_of same)) kept.stands;
  front = ap (λ (p : Plain). at (log_of p) p.published) same ∙ kept.front ∙ ap Some (sym front);
  end = ap (λ (p : Plain). at (log_of p) (length new.logged.items)) same ∙ ap (λ (xs : List Logged). at (kept_log k) (length xs)) logged ∙ kept.end ∙ ap Some (sym end);
  logged = λ j l there. subst (λ (p : Plain). IsLogged (log_of p) j l) (sym same) (kept.logged j l (ap (λ (xs : List Logged). slice_get xs j) (sym logged) ∙ there));
  pending = subst (λ (p : Plain). IfSome new.pending (IsPending (log_of p) new.end.mailbox (map seated new.seats.items))) (sym same)
      (subst (λ (m : Mailbox). IfSome new.pending (IsPending (kept_log k) m (map seated new.seats.items))) (sym end)
      (subst (λ (xs : List Seat). IfSome new.pending (IsPending (kept_log k) k.end.mailbox (map seated xs))) (sym seats)
      (subst (λ (o : Option Pending). IfSome o (IsPending (kept_log k) k.end.mailbox (map seated k.seats.items))) (sym pending) kept.pending)));
  seats = subst (λ (p : Plain). All (IsSeat (log_of p)) new.seats.items) (sym same) (subst (All (IsSeat (kept_log k))) (sym seats) kept.seats);
}
