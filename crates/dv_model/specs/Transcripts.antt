-- What a run of commands is: each is answered by the rules over a prefix of one log.
use Rattle.std.specs.Prelude.{◌≡◌, ◌⊎◌, ℕ, ◌+◌, ◌≤◌, Bool, true, false, ◌||◌, cond, List, [], ◌∷◌, ◌++◌, length, map, filter, take, drop, count_by, All, Any, Option, Some, None, slice_get, nat_eq, if◌then◌else◌}
use Rattle.std.specs.List.{list_any}
use Rattle.dv_model.specs.declared.types.Command.{Command}
use Rattle.dv_model.specs.declared.types.Command.TheVariants as command
use Rattle.dv_model.specs.declared.types.Entry.{Entry}
use Rattle.dv_model.specs.declared.types.Group.{Group}
use Rattle.dv_model.specs.declared.types.Mailbox.{Mailbox}
use Rattle.dv_model.specs.declared.types.Reply.{Reply}
use Rattle.dv_model.specs.declared.types.Reply.TheVariants as reply
use Rattle.dv_model.specs.Counts.{Rose, RoseBy}
use Rattle.dv_model.specs.Journals.{Log, IsSound, Held, at, mark_of, new_guid}
use Rattle.dv_model.specs.Sessions.{State, new_session, answer, group_of, refusal_of, is_write, reads_mail}
use Rattle.dv_model.specs.Views.{View}

-- ---- one command

-- an appended message is the log's message of its UID, with a GUID of its own
abbrev pub KeepsMessage : Log → Command → Mailbox → Type 0
KeepsMessage log (command.Append flags keywords message) m =
    (log.mail m.next_uid ≡ Held message) × ((received : ℕ) × (log.guid m.next_uid ≡ new_guid log.indexid m.uid_validity m.next_uid received))
KeepsMessage log c m = Unit {0}

-- the log that keeps the message of an APPEND over this mailbox, with a GUID by the time when it came
abbrev pub with_message : Log → Command → ℕ → Mailbox → Log
with_message log (command.Append flags keywords message) received m = record log {
  mail = λ uid. if nat_eq uid m.next_uid then Held message else log.mail uid;
  guid = λ uid. if nat_eq uid m.next_uid then new_guid log.indexid m.uid_validity m.next_uid received else log.guid uid;
}
with_message log c received m = log

-- the log with the group that a command wrote as one entry more, and its message where it appends one
abbrev pub with_written : Log → ℕ → Command → ℕ → Group → Mailbox → Log
with_written log author c received g m = record log {
  entries = log.entries ++ record { author = author; group = g } ∷ [];
  mail = (with_message log c received m).mail;
  guid = (with_message log c received m).guid;
}

-- its group is the entry behind those that it met
pub record HasWritten (log : Log) (author met q : ℕ) (view : View) (c : Command) (m : Mailbox) : Type 0 where
  pub behind : q ≡ met + 1
  pub some : 1 ≤ length (group_of c view m log.guid).records
  pub entry : slice_get log.entries met ≡ Some (record { author = author; group = group_of c view m log.guid })
  pub message : KeepsMessage log c m

-- it wrote its group as one entry, or has none to write
abbrev pub Wrote : Log → ℕ → ℕ → ℕ → View → Command → Mailbox → Type 0
Wrote log author met q view c m = HasWritten log author met q view c m ⊎ ((q ≡ met) × ((group_of c view m log.guid).records ≡ []))

-- the one line of a command that is refused where it meets the mailbox after the first k entries
abbrev pub refused_at : Log → ℕ → State → Command → Mailbox → Option Reply
refused_at log k x c m = refusal_of x c m log.rotates (mark_of log k) log.guid

-- it was answered after q entries of the log
pub record IsTold (log : Log) (author met q : ℕ) (x : State) (c : Command) (replies : List Reply) (y : State) : Type 0 where
  pub before : Mailbox
  pub was_there : at log met ≡ Some before
  pub allowed : refused_at log met x c before ≡ None
  pub wrote : Wrote log author met q x.view c before
  pub mailbox : Mailbox
  pub is_there : at log q ≡ Some mailbox
  pub seen : (x.told ≤ q) × (q ≤ length log.entries)
  pub is : answer log.mail x c before q mailbox (mark_of log q) ≡ record { replies = replies; next = y }

-- it was refused, by one line, and the session is as before
pub record IsRefused (log : Log) (met q : ℕ) (x : State) (c : Command) (replies : List Reply) (y : State) : Type 0 where
  pub before : Mailbox
  pub was_there : at log met ≡ Some before
  pub line : Reply
  pub refusal : refused_at log met x c before ≡ Some line
  pub one_line : replies ≡ line ∷ []
  pub nothing_written : q ≡ met
  pub stays : y ≡ x

-- the command reaches the disk: it writes, or it reads messages
abbrev pub touches_disk : Command → Bool
touches_disk c = is_write c || reads_mail c

-- a temporary failure because a subsystem is down (RFC 5530, UNAVAILABLE): the disk has failed more often than before
-- the run, and the session is as before
pub record IsUnavailable (log : Log) (base met q : ℕ) (x : State) (c : Command) (replies : List Reply) (y : State) : Type 0 where
  pub before : Mailbox
  pub was_there : at log met ≡ Some before
  pub allowed : refused_at log met x c before ≡ None
  pub touches : touches_disk c ≡ true
  pub faults : ℕ
  pub above : Rose base faults
  pub one_line : replies ≡ reply.Unavailable faults ∷ []
  pub nothing_written : q ≡ met
  pub stays : y ≡ x

-- the command is answered so, where the log had `met` entries before and has q behind
abbrev pub Answered : Log → ℕ → ℕ → ℕ → ℕ → State → Command → List Reply → State → Type 0
Answered log base author met q x c replies y = IsRefused log met q x c replies y ⊎ IsUnavailable log base met q x c replies y ⊎ IsTold log author met q x c replies y

-- ---- a whole run, one command after another

-- a line of a run names a session by its number
abbrev pub Line : Type 0
Line = ℕ × Command

-- one session is changed
abbrev pub with_state : (ℕ → State) → ℕ → State → ℕ → State
with_state states s y t = cond (nat_eq s t) y (states t)

-- each of these lines is answered, one after another, from these states and so many entries to those
abbrev pub Runs : Log → ℕ → (ℕ → State) → ℕ → List Line → List (List Reply) → (ℕ → State) → ℕ → Type 0
Runs log base states met [] [] after q = (after ≡ states) × (q ≡ met)
Runs log base states met [] (replies ∷ rest) after q = ⊥
Runs log base states met (line ∷ lines) [] after q = ⊥
Runs log base states met (line ∷ lines) (replies ∷ rest) after q =
    (k : ℕ) × (y : State) × Answered log base line.0 met k (states line.0) line.1 replies y × Runs log base (with_state states line.0 y) k lines rest after q

-- a write that the rules allow, and that wasn't answered with a mark, left its group as the entry behind the first k
pub record HasLeft (log : Log) (author k : ℕ) (x : State) (c : Command) : Type 0 where
  pub mailbox : Mailbox
  pub met : at log k ≡ Some mailbox
  -- it met no fewer entries than its session was told of
  pub told : x.told ≤ k
  pub write : is_write c ≡ true
  pub allowed : refused_at log k x c mailbox ≡ None
  -- a group that isn't empty, with the log's message and GUID
  pub written : HasWritten log author k (k + 1) x.view c mailbox

-- the log ends where the answered lines ended, or one entry later by the first line that wasn't answered
abbrev pub EndsAt : Log → (ℕ → State) → ℕ → List Line → Type 0
EndsAt log states met [] = length log.entries ≡ met
EndsAt log states met (line ∷ lines) =
    (length log.entries ≡ met) ⊎ ((length log.entries ≡ met + 1) × HasLeft log line.0 met (states line.0) line.1)

-- a reply of the disk's failure
abbrev pub is_unavailable : Reply → Bool
is_unavailable (reply.Unavailable faults) = true
is_unavailable r = false

-- the number of commands that the disk's failure answered
abbrev pub unavailable_count : List (List Reply) → ℕ
unavailable_count replies = count_by (list_any is_unavailable) replies

-- The first lines are answered, one after another, over a sound log, which ends behind them. The disk's failures
-- answered no more of them than its count rose by, from `base` to `faults`.
pub record Serial (log : Log) (base faults : ℕ) (lines : List Line) (replies : List (List Reply)) : Type 0 where
  pub sound : IsSound log
  pub states : ℕ → State
  pub written : ℕ
  pub answered : Runs log base (λ s. new_session) 0 (take (length replies) lines) replies states written
  pub ends : EndsAt log states written (drop (length replies) lines)
  pub few : RoseBy (unavailable_count replies) base faults

-- ---- one session beside others

-- A command of a session and what came of it: the session's state before and after, how many entries of the log the
-- command met, and after how many it was answered.
pub record Turn : Type 0 where
  pub before : State
  pub command : Command
  pub met : ℕ
  pub behind : ℕ
  pub replies : List Reply
  pub after : State

-- it met no fewer entries than the session was told of, and was answered by the rules
pub record IsTurn (log : Log) (base author : ℕ) (t : Turn) : Type 0 where
  pub met : (t.before.told ≤ t.met) × (t.met ≤ length log.entries)
  pub answered : Answered log base author t.met t.behind t.before t.command t.replies t.after

-- each turn begins where the one before it ended
abbrev pub LeadsTo : State → List Turn → State → Type 0
LeadsTo x [] y = y ≡ x
LeadsTo x (t ∷ turns) y = (t.before ≡ x) × LeadsTo t.after turns y

-- one of the turns wrote the entry behind the first k
abbrev pub WroteEntry : List Turn → ℕ → Type 0
WroteEntry turns k = Any (λ t. (t.met ≡ k) × (t.behind ≡ k + 1)) turns

-- the entry behind the first k is the author's, and isn't one of the first that the session began with
pub record IsOwn (log : Log) (author start k : ℕ) : Type 0 where
  pub later : start ≤ k
  pub entry : Entry
  pub is : slice_get log.entries k ≡ Some entry
  pub by : entry.author ≡ author

-- the last entry of the author was left by a write that wasn't answered with a mark
pub record IsLeft (log : Log) (author k : ℕ) (x : State) (c : Command) : Type 0 where
  pub left : HasLeft log author k x c
  pub last : (j : ℕ) → IsOwn log author k j → j ≡ k

-- that command is the first that wasn't answered
abbrev pub IsNextLeft : Log → ℕ → ℕ → State → List Command → Type 0
IsNextLeft log author k x [] = ⊥
IsNextLeft log author k x (c ∷ commands) = IsLeft log author k x c

-- a turn that the disk's failure answered
abbrev pub IsFailed : Turn → Type 0
IsFailed t = (faults : ℕ) × (t.replies ≡ reply.Unavailable faults ∷ [])

-- that command was answered by the disk's failure, and its entry stands behind those that it met
abbrev pub IsFailedLeft : Log → ℕ → ℕ → List Turn → Type 0
IsFailedLeft log author k turns = Any (λ t. IsFailed t × (t.met ≡ k) × IsLeft log author k t.before t.command) turns

-- each of the author's entries was written by a turn
abbrev pub AreWritten : Log → ℕ → ℕ → List Turn → Type 0
AreWritten log author start turns = (k : ℕ) → IsOwn log author start k → WroteEntry turns k

-- each but the one behind the first `last`
abbrev pub AreWrittenBut : Log → ℕ → ℕ → List Turn → ℕ → Type 0
AreWrittenBut log author start turns last = (k : ℕ) → IsOwn log author start k → WroteEntry turns k ⊎ (k ≡ last)

-- what is common to both kinds of transcripts: the first commands were answered in turn
pub record Speaks (log : Log) (base author : ℕ) (commands : List Command) (replies : List (List Reply)) : Type 0 where
  -- the session was made when the log had so many entries
  pub start : ℕ
  pub there : start ≤ length log.entries
  pub turns : List Turn
  pub each : All (IsTurn log base author) turns
  pub state : State
  pub leads : LeadsTo (record new_session { told = start }) turns state
  pub replied : map (λ t. t.replies) turns ≡ replies
  pub sent : map (λ t. t.command) turns ≡ take (length replies) commands

-- A transcript of one session over a sound log: its entries are those that its turns wrote, but that the last one may be
-- that of the first command that wasn't answered.
pub record Spoken (log : Log) (base author : ℕ) (commands : List Command) (replies : List (List Reply)) : Type 0 where
  pub sound : IsSound log
  pub speaks : Speaks log base author commands replies
  pub entries : AreWritten log author speaks.start speaks.turns
      ⊎ ((last : ℕ) × IsNextLeft log author last speaks.state (drop (length replies) commands) × AreWrittenBut log author speaks.start speaks.turns last)

-- the same where a crash ended the session: the last entry may also be that of a write that the disk's failure answered
pub record SpokenUntilCrash (log : Log) (base author : ℕ) (commands : List Command) (replies : List (List Reply)) : Type 0 where
  pub sound : IsSound log
  pub speaks : Speaks log base author commands replies
  pub entries : AreWritten log author speaks.start speaks.turns
      ⊎ ((last : ℕ) × (IsNextLeft log author last speaks.state (drop (length replies) commands) ⊎ IsFailedLeft log author last speaks.turns) × AreWrittenBut log author speaks.start speaks.turns last)

-- ---- the sessions of a run

-- the commands of one session among the lines
abbrev pub commands_of : ℕ → List Line → List Command
commands_of s lines = map (λ line. line.1) (filter (λ line. nat_eq line.0 s) lines)

-- the replies to one session's lines, of the first lines, which were answered
abbrev pub replies_of : ℕ → List Line → List (List Reply) → List (List Reply)
replies_of s (line ∷ lines) (replies ∷ rest) = cond (nat_eq line.0 s) (replies ∷ replies_of s lines rest) (replies_of s lines rest)
replies_of s lines replies = []
