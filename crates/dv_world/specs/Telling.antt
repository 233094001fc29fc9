-- How a session is answered.
use Rattle.std.specs.Prelude.{ℕ, false, ◌&&◌, List, [], ◌∷◌, ◌++◌, Option, Some, None, nat_eq, nat_le, if◌then◌else◌}
use Rattle.dv_model.specs.declared.types.Command.{Command}
use Rattle.dv_model.specs.Sessions.{Answer, is_write}
use Rattle.dv_interleavings.specs.Worlds.{Session, same_write}
use Rattle.dv_responses.specs.Met.{met_of}
use Rattle.dv_responses.specs.declared.meeting.Met.{Met}
use Rattle.dv_world.specs.declared.kept.Pending.{Pending}
use Rattle.dv_world.specs.declared.kept.Seat.{Seat}
use Rattle.dv_world.specs.declared.kept.Wrote.{Wrote}

-- the session behind an answer
abbrev pub answered : Session → Command → Answer → Session
answered session c a = record session {
  state = a.next;
  wrote = None;
  answers = session.answers ++ (c, a.replies) ∷ [];
}

-- a pending entry of the session no longer runs
abbrev pub own_stopped : ℕ → Pending → Pending
own_stopped s p = if nat_eq p.author s then record p { running = false } else p

-- what the command took, by what its session wrote
abbrev pub taken_of : Seat → Command → Option Wrote → Option Met
taken_of seat c None = if is_write c then None else Some (met_of c seat.session.state.view seat.live.mailbox)
taken_of seat c (Some w) =
    if same_write w.command c && nat_le w.place seat.seen then Some w.taken else None

-- where it may be answered now: an unanswered write first, and no other
abbrev pub taken_by : Seat → Command → Option Met
taken_by seat c = taken_of seat c seat.wrote
