-- What the calls leave, in the words of the state that their contracts see.
use Rattle.std.specs.Prelude.{◌≡◌, ℕ, ◌≤◌, Bool, true, false, List, [], length, flat_map, option_map, Option, Some, None, if◌then◌else◌}
use Rattle.dv_model.specs.declared.types.Command.{Command}
use Rattle.dv_model.specs.declared.types.Mailbox.{Mailbox}
use Rattle.dv_model.specs.Journals.{Log, at, mark_of}
use Rattle.dv_model.specs.Sessions.{answer, is_write}
use Rattle.dv_interleavings.specs.Worlds.{World, Session, Pending, Wrote, all_happen, is_bad, length_of, loaded_number, only_log, stopped, with_answer, with_session}
use Rattle.dv_schedules.specs.Calls.{Answer, Call, Commit, Done, Failed, Gather, Make, MayCommit, Refresh, Unwritten, all_called, committed, events_of, group_met, left_pending, made, with_write}

-- ---- the beginning and loads

-- the sessions begin at the log's end
abbrev pub MakeOpens : Type 0
MakeOpens = (log : Log) (n : ℕ) → all_happen (only_log log) (events_of (Make n)) ≡ made log n

-- a session has loaded what is published, but no more than its own write while that isn't answered
abbrev pub RefreshLoads : Type 0
RefreshLoads = (w : World) (s : ℕ) (session : Session)
    → w.sessions s ≡ Some session
    → all_happen w (events_of (Refresh s))
    ≡ with_session w s (Some (record session { seen = loaded_number w.published session.wrote }))

-- so has each of two
abbrev pub GatherLoads : Type 0
GatherLoads = (w : World) (s t : ℕ)
    → all_happen w (events_of (Gather s t))
    ≡ all_happen (all_happen w (events_of (Refresh s))) (events_of (Refresh t))

-- ---- commits

-- the group is one entry more
abbrev pub CommitWrites : Type 0
CommitWrites = (w : World) (s : ℕ) (session : Session) (c : Command) (m : Mailbox) (received : ℕ)
    (healed : Bool)
    → MayCommit w s session c m → 1 ≤ length (group_met w session c m).records
    → all_happen w (events_of (Commit s c received healed Done))
    ≡ committed w s session c received m

-- what is pending where a commit wrote nothing
abbrev pub pending_behind : Bool → Option Pending → Option Pending
pending_behind healed pending = if healed then None else option_map stopped pending

-- an empty group is done at once, and no entry
abbrev pub EmptyCommits : Type 0
EmptyCommits = (w : World) (s : ℕ) (session : Session) (c : Command) (m : Mailbox) (received : ℕ)
    (healed : Bool)
    → MayCommit w s session c m → (group_met w session c m).records ≡ []
    → all_happen w (events_of (Commit s c received healed Done))
    ≡ with_session (record w { pending = pending_behind healed w.pending }) s
    (Some (with_write session c (length_of w) (length_of w)))

-- a failed one leaves its group pending, and the log as it was
abbrev pub FailedCommits : Type 0
FailedCommits = (w : World) (s : ℕ) (session : Session) (c : Command) (m : Mailbox) (received : ℕ)
    (healed : Bool)
    → MayCommit w s session c m → 1 ≤ length (group_met w session c m).records
    → all_happen w (events_of (Commit s c received healed Failed))
    ≡ left_pending w s session c received m

-- one that wrote nothing changes nothing, but for an earlier group that it took away
abbrev pub UnwrittenCommits : Type 0
UnwrittenCommits = (w : World) (s : ℕ) (c : Command) (received : ℕ) (healed : Bool)
    → all_happen w (events_of (Commit s c received healed Unwritten))
    ≡ (if healed then record w { pending = None } else w)

-- ---- answers

-- a command that writes nothing is answered at what its session has seen
abbrev pub AnswerReads : Type 0
AnswerReads = (w : World) (s : ℕ) (session : Session) (c : Command) (m : Mailbox)
    → w.sessions s ≡ Some session → session.wrote ≡ None → is_write c ≡ false
    → is_bad session.state c ≡ false → at w.log session.seen ≡ Some m
    → all_happen w (events_of (Answer s c))
    ≡ with_answer w s session c
    (answer w.log.mail session.state c m session.seen m (mark_of w.log session.seen))

-- a write is answered at its own place, once its session has loaded it
abbrev pub AnswerWrites : Type 0
AnswerWrites = (w : World) (s : ℕ) (session : Session) (write : Wrote) (met m : Mailbox)
    → w.sessions s ≡ Some session → session.wrote ≡ Some write → is_write write.command ≡ true
    → is_bad session.state write.command ≡ false → write.place ≤ session.seen
    → at w.log write.met ≡ Some met → at w.log write.place ≡ Some m
    → all_happen w (events_of (Answer s write.command))
    ≡ with_answer w s session write.command
    (answer w.log.mail session.state write.command met write.place m (mark_of w.log write.place))

-- ---- calls in turn

-- calls in turn are their events in turn: an interleaving
abbrev pub CallsAreEvents : Type 0
CallsAreEvents = (w : World) (calls : List Call)
    → all_called w calls ≡ all_happen w (flat_map events_of calls)
