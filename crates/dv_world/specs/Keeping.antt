-- What is kept beside a world, so that each event is one step.
use Rattle.std.specs.Prelude.{◌≡◌, ◌↔◌, ℕ, ◌+◌, ◌≤◌, true, List, length, map, All, Contains, Option, Some, IfSome, slice_get}
use Rattle.dv_model.specs.declared.types.Mailbox.{Mailbox}
use Rattle.dv_model.specs.Fresh.{IsTouched}
use Rattle.dv_model.specs.Journals.{Log, at, mark_of, mark_behind}
use Rattle.dv_model.specs.Views.{View}
use Rattle.dv_interleavings.specs.Worlds.{Session}
use Rattle.dv_promises.specs.Standing.{Stands}
use Rattle.dv_responses.specs.Met.{met_of}
use Rattle.dv_answer.specs.Following.{IsAbreast}
use Rattle.dv_world.specs.declared.kept.Kept.{Kept}
use Rattle.dv_world.specs.declared.kept.Logged.{Logged}
use Rattle.dv_world.specs.declared.kept.Pending.{Pending}
use Rattle.dv_world.specs.declared.kept.Seat.{Seat}
use Rattle.dv_world.specs.declared.kept.Wrote.{Wrote}
use Rattle.dv_world.specs.Shapes.{kept_world, log_of, plain_of, session_at, seated}

-- the log that is kept
abbrev pub kept_log : Kept → Log
kept_log k = log_of (plain_of k)

-- what an unanswered write took is that of the mailbox that it met
abbrev pub HasTaken : Log → View → Wrote → Type 0
HasTaken log view w = (w.met ≤ length log.entries) × ((m : Mailbox) → at log w.met ≡ Some m → w.taken ≡ met_of w.command view m)

-- a session's own mailbox is that behind what it has seen, and it keeps up with that
pub record IsSeat (log : Log) (seat : Seat) : Type 0 where
  pub inside : seat.seen ≤ length log.entries
  pub live : at log seat.seen ≡ Some seat.live.mailbox
  pub abreast : IsAbreast seat.live.mailbox seat.session
  pub taken : IfSome seat.wrote (HasTaken log seat.session.state.view)

-- the entry behind the first j has its mark, and touches these UIDs
pub record IsLogged (log : Log) (j : ℕ) (l : Logged) : Type 0 where
  pub mark : mark_of log (j + 1) ≡ l.behind
  pub touched : (old new : Mailbox) → at log j ≡ Some old → at log (j + 1) ≡ Some new
      → (uid : ℕ) → Contains l.touched uid ↔ IsTouched old new uid

-- a pending entry would be the next, and while it runs its author hasn't been told since
pub record IsPending (log : Log) (end : Mailbox) (sessions : List (ℕ × Session)) (p : Pending)
    : Type 0 where
  pub behind : mark_behind true (mark_of log (length log.entries)) p.group ≡ p.behind
  pub taken : p.running ≡ true → (session : Session) → session_at sessions p.author ≡ Some session
      → p.taken ≡ met_of p.command session.state.view end

-- The world stands, each mailbox is that behind its number of entries, and what is known of entries and sessions holds.
pub record IsKept (k : Kept) : Type 0 where
  pub stands : Stands (kept_world k)
  pub front : at (kept_log k) k.published ≡ Some k.front.mailbox
  pub end : at (kept_log k) (length k.logged.items) ≡ Some k.end.mailbox
  pub logged : (j : ℕ) (l : Logged) → slice_get k.logged.items j ≡ Some l → IsLogged (kept_log k) j l
  pub pending : IfSome k.pending (IsPending (kept_log k) k.end.mailbox (map seated k.seats.items))
  pub seats : All (IsSeat (kept_log k)) k.seats.items

-- the log and its mailboxes stay; what is pending and the sessions may change
pub record Stays (old new : Kept) : Type 0 where
  pub log : kept_log new ≡ kept_log old
  pub logged : new.logged ≡ old.logged
  pub published : new.published ≡ old.published
  pub front : new.front ≡ old.front
  pub end : new.end ≡ old.end

-- these are the entries behind the first `from`
abbrev pub AreLogged : Log → ℕ → List Logged → Type 0
AreLogged log from logged = (j : ℕ) (l : Logged) → slice_get logged j ≡ Some l
    → IsLogged log (from + j) l × (slice_get log.entries (from + j) ≡ Some l.entry)
