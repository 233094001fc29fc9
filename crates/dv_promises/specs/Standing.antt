-- What stands in each world that good events lead to.
use Rattle.std.specs.Prelude.{◌≡◌, ◌⊎◌, ℕ, ◌+◌, ◌≤◌, true, List, ◌++◌, length, map, All, Option, Some, None, IfSome}
use Rattle.dv_model.specs.declared.types.Command.{Command}
use Rattle.dv_model.specs.declared.types.Group.{Group}
use Rattle.dv_model.specs.declared.types.Mailbox.{Mailbox}
use Rattle.dv_model.specs.declared.types.Mark.{Mark}
use Rattle.dv_model.specs.declared.types.Reply.{Reply}
use Rattle.dv_model.specs.Journals.{Log, HasResets, IsGuid, IsSound, IsU32, at}
use Rattle.dv_model.specs.Mailboxes.{IsValid}
use Rattle.dv_model.specs.Sessions.{State, IsCommand, new_session, group_of, is_write}
use Rattle.dv_model.specs.Transcripts.{IsOwn, IsTold, LeadsTo, Turn, Wrote as HasWrote, WroteEntry, refused_at}
use Rattle.dv_interleavings.specs.Worlds.{World, Session, Pending, Wrote, Event, Write, Stored}

-- ---- events

-- a session's number has 32 bits, and a command that is written is one of its type, since other
-- records have no spelling
abbrev pub IsGoodEvent : Event → Type 0
IsGoodEvent (Write s c received) = IsU32 s × IsCommand c
IsGoodEvent event = Unit {0}

-- ---- the beginning

-- a valid mailbox, a place of a log, and messages with GUIDs of 16 bytes
pub record IsStart (start : Mailbox) (indexid : ℕ) (mark : Mark) (stored : List Stored)
    : Type 0 where
  pub mailbox : IsValid start × HasResets start
  pub numbers : IsU32 indexid × IsU32 mark.file_seq × IsU32 mark.offset
  pub guids : All (λ s. IsGuid s.guid) stored

-- ---- a session's story

-- a turn that was answered with a mark, and met no fewer entries than its session was told of
pub record IsToldTurn (log : Log) (s : ℕ) (t : Turn) : Type 0 where
  pub met : (t.before.told ≤ t.met) × (t.met ≤ length log.entries)
  pub told : IsTold log s t.met t.behind t.before t.command t.replies t.after

-- a session that isn't selected and was told of so many entries
abbrev pub begins_at : ℕ → State
begins_at start = record new_session { told = start }

-- A command that has its place in the log and isn't answered yet: it was allowed in the session's
-- state, and its group is the last entry of its session, or is empty.
pub record IsWriting (log : Log) (s : ℕ) (x : State) (write : Wrote) : Type 0 where
  -- the mailbox that it met
  pub before : Mailbox
  pub was_there : at log write.met ≡ Some before
  pub allowed : refused_at log write.met x write.command before ≡ None
  pub wrote : HasWrote log s write.met write.place x.view write.command before
  -- it met no fewer entries than its session was told of, and its place is in the log
  pub told : x.told ≤ write.met
  pub there : write.place ≤ length log.entries
  -- no entry of the session follows
  pub last : (j : ℕ) → IsOwn log s write.met j → j ≡ write.met

-- A write of a good event, allowed in a session's state over the mailbox at the log's end, and its
-- group, which isn't empty.
pub record HasTried (log : Log) (author : ℕ) (state : State) (c : Command) (g : Group)
    : Type 0 where
  pub mailbox : Mailbox
  pub is_there : at log (length log.entries) ≡ Some mailbox
  pub allowed : refused_at log (length log.entries) state c mailbox ≡ None
  pub group : g ≡ group_of c state.view mailbox log.guid
  pub some : 1 ≤ length g.records
  pub number : IsU32 author
  pub good : IsCommand c
  pub write : is_write c ≡ true
  -- it met no fewer entries than its session was told of
  pub told : state.told ≤ length log.entries

-- A pending entry of the session: it was tried in the state behind some first turns. While it runs
-- that is the session's last state.
pub record IsTried (log : Log) (start : ℕ) (turns : List Turn) (last : State)
    (wrote : Option Wrote) (p : Pending) : Type 0 where
  -- the turns before it, those since, and the state between
  pub front : List Turn
  pub back : List Turn
  pub split : turns ≡ front ++ back
  pub state : State
  pub leads : LeadsTo (begins_at start) front state
  pub rest : LeadsTo state back last
  pub attempt : HasTried log p.author state p.command p.group
  -- the session wrote no entry since
  pub empty : IfSome wrote (λ write. write.place ≡ write.met)
  -- while it runs the session was told nothing since, and nothing waits for its answer
  pub running : p.running ≡ true → (last ≡ state) × (wrote ≡ None)

-- the entry behind the first k is that of the command that isn't answered yet
abbrev pub IsWaiting : Option Wrote → ℕ → Type 0
IsWaiting None k = ⊥
IsWaiting (Some wrote) k = (wrote.met ≡ k) × (wrote.place ≡ k + 1)

-- a session's commands, each answered by the rules, from its beginning to its state
pub record IsStory (log : Log) (s : ℕ) (state : State) (replied : List (Command × List Reply))
    : Type 0 where
  -- the log had so many entries when it opened
  pub start : ℕ
  pub there : start ≤ length log.entries
  pub turns : List Turn
  pub each : All (IsToldTurn log s) turns
  pub leads : LeadsTo (begins_at start) turns state
  pub answers : map (λ t. (t.command, t.replies)) turns ≡ replied

-- A live session: its turns were told by the rules and lead to its state, and each entry that is
-- its own was written by one of them, or waits for its answer.
pub record IsLive (log : Log) (published : ℕ) (waiting : Option Pending) (s : ℕ)
    (session : Session) : Type 0 where
  -- it was told of no more than it has seen, and has seen no more than was published
  pub told : session.state.told ≤ session.seen
  pub seen : session.seen ≤ published
  pub story : IsStory log s session.state session.answers
  -- each entry of its own is that of one of them, or of the one that waits for its answer
  pub ledger : (k : ℕ) → IsOwn log s story.start k
      → WroteEntry story.turns k ⊎ IsWaiting session.wrote k
  -- that one was allowed, and has its place
  pub wrote : IfSome session.wrote (IsWriting log s session.state)
  -- it hasn't loaded past its own write
  pub loaded : IfSome session.wrote (λ write. session.seen ≤ write.place)
  -- so was a pending entry of its own
  pub pending : IfSome waiting (λ p. p.author ≡ s
      → IsTried log story.start story.turns session.state session.wrote p)

-- ---- the world

-- the pending entry's session lives
abbrev pub HasAuthor : World → Pending → Type 0
HasAuthor w p = (session : Session) × (w.sessions p.author ≡ Some session)

-- The log is sound, each live session has its story, and a session that isn't there wrote
-- nothing that isn't published.
pub record Stands (w : World) : Type 0 where
  pub sound : IsSound w.log
  -- no more is published than is durable
  pub published : w.published ≤ length w.log.entries
  -- each live session has its story
  pub each : (s : ℕ) (session : Session)
      → w.sessions s ≡ Some session → IsLive w.log w.published w.pending s session
  -- one that isn't there wrote nothing that isn't published, so it may open
  pub absent : (s k : ℕ) → w.sessions s ≡ None → IsOwn w.log s w.published k → ⊥
  -- whose entry is pending lives
  pub author : IfSome w.pending (HasAuthor w)
