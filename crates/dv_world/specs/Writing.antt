-- What a session writes.
use Rattle.std.specs.Prelude.{◌≡◌, ℕ, true, false, length, Option, Some, None, IsSome}
use Rattle.dv_model.specs.declared.types.Command.{Command}
use Rattle.dv_model.specs.declared.types.Mailbox.{Mailbox}
use Rattle.dv_model.specs.Journals.{Log, mark_of, mark_behind}
use Rattle.dv_model.specs.Sessions.{State, group_of}
use Rattle.dv_model.specs.Transcripts.{refused_at}
use Rattle.dv_responses.specs.Met.{met_of}
use Rattle.dv_world.specs.declared.kept.Pending.{Pending}
use Rattle.dv_world.specs.declared.kept.Wrote.{Wrote}
use Rattle.dv_world.specs.declared.writing.Made.{Made}

-- the command is allowed at the log's end, and this is its group, the place behind that, and what it takes
pub record IsMade (log : Log) (x : State) (c : Command) (m : Mailbox) (w : Made) : Type 0 where
  pub allowed : refused_at log (length log.entries) x c m ≡ None
  pub group : w.group ≡ group_of c x.view m log.guid
  pub behind : mark_behind true (mark_of log (length log.entries)) w.group ≡ w.behind
  pub taken : w.taken ≡ met_of c x.view m
  pub command : w.command ≡ c

-- or else it is refused there
abbrev pub IsWritten : Log → State → Command → Mailbox → Option Made → Type 0
IsWritten log x c m None = IsSome (refused_at log (length log.entries) x c m)
IsWritten log x c m (Some w) = IsMade log x c m w

-- what is pending then, by this session
abbrev pub tried_by : ℕ → ℕ → Made → Pending
tried_by author received made = record {
  author = author;
  command = made.command;
  group = made.group;
  received = received;
  running = true;
  behind = made.behind;
  taken = made.taken;
}

-- what is done then, at the log's end
abbrev pub done_at : ℕ → Made → Wrote
done_at place made = record { place = place; met = place; command = made.command; taken = made.taken }

-- it no longer runs
abbrev pub halted : Pending → Pending
halted p = record p { running = false }
