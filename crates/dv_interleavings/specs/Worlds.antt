-- Sessions over one log, whose steps come in any order: the state, and what each event changes in
-- it.
use Rattle.std.specs.Prelude.{ℕ, ◌+◌, ◌-◌, min, Bool, true, false, not, ◌&&◌, ◌||◌, List, [], ◌∷◌, ◌++◌, length, find, replicate, Option, Some, None, is_some, unwrap_or, option_map, option_and_then, nat_eq, nat_le, bytes_eq, if◌then◌else◌}
use Rattle.dv_model.specs.declared.types.Command.{Command}
use Rattle.dv_model.specs.declared.types.Command.TheVariants as command
use Rattle.dv_model.specs.declared.types.End.{End}
use Rattle.dv_model.specs.declared.types.End.TheVariants.{Number, Star}
use Rattle.dv_model.specs.declared.types.Group.{Group}
use Rattle.dv_model.specs.declared.types.How.{How}
use Rattle.dv_model.specs.declared.types.How.TheVariants.{Add, Remove, Replace}
use Rattle.dv_model.specs.declared.types.Mailbox.{Mailbox}
use Rattle.dv_model.specs.declared.types.Mark.{Mark}
use Rattle.dv_model.specs.declared.types.Reply.{Reply}
use Rattle.dv_model.specs.declared.types.Span.{Span}
use Rattle.dv_model.specs.Journals.{Log, Mail, Held, Damaged, at, mark_of}
use Rattle.dv_model.specs.Sessions.{State, Answer, new_session, answer, group_of, missing_number, is_select, is_write}
use Rattle.dv_model.specs.Transcripts.{refused_at, with_written}

-- ---- the state

-- an entry whose gate was written, or is being written, and that isn't durable yet
pub record Pending : Type 0 where
  pub author : ℕ
  pub command : Command
  pub group : Group
  -- when an appended message was received
  pub received : ℕ
  -- its commit hasn't ended
  pub running : Bool

-- a write that is done and not answered yet: how many entries the log then had, and how many it met
pub record Wrote : Type 0 where
  pub place : ℕ
  pub met : ℕ
  pub command : Command

-- a live session of the world
pub record Session : Type 0 where
  pub state : State
  -- how many entries it has loaded
  pub seen : ℕ
  pub wrote : Option Wrote
  -- the commands that were answered, each with its replies
  pub answers : List (Command × List Reply)

-- the log has the durable entries alone
pub record World : Type 0 where
  pub log : Log
  pub pending : Option Pending
  pub published : ℕ
  pub sessions : ℕ → Option Session

-- what may happen: a session opens, writes, loads or is answered; an entry is made durable, taken
-- away or published; the program ends
pub data Event : Type 0 where
  Open : ℕ → Event
  Write : ℕ → Command → ℕ → Event
  Sync : Event
  Heal : Event
  Publish : Event
  Load : ℕ → Event
  Tell : ℕ → Command → Event
  Crash : ℕ → Event

-- ---- equal commands

-- two ends of a range are one
abbrev pub same_end : End → End → Bool
same_end (Number m) (Number n) = nat_eq m n
same_end Star Star = true
same_end one other = false

-- two lists are one, item by item
abbrev pub same_items : {X : Type 0} → (X → X → Bool) → List X → List X → Bool
same_items same [] [] = true
same_items same (x ∷ xs) (y ∷ ys) = same x y && same_items same xs ys
same_items same xs ys = false

-- two sequence sets are one
abbrev pub same_set : List Span → List Span → Bool
same_set one other = same_items (λ a b. same_end a.from b.from && same_end a.to b.to) one other

-- two words of a STORE are one
abbrev pub same_how : How → How → Bool
same_how Add Add = true
same_how Remove Remove = true
same_how Replace Replace = true
same_how one other = false

-- two answers are one
abbrev pub same_bool : Bool → Bool → Bool
same_bool true b = b
same_bool false b = not b

-- two numbers are one, or neither is there
abbrev pub same_number : Option ℕ → Option ℕ → Bool
same_number None None = true
same_number (Some m) (Some n) = nat_eq m n
same_number one other = false

-- two writes are one command
abbrev pub same_write : Command → Command → Bool
same_write command.Check command.Check = true
same_write command.Expunge command.Expunge = true
same_write (command.Append flags keywords message) (command.Append flags' keywords' message') =
    nat_eq flags flags' && same_items bytes_eq keywords keywords' && bytes_eq message message'
same_write (command.Store by_uid set how flags keywords since)
    (command.Store by_uid' set' how' flags' keywords' since') =
    same_bool by_uid by_uid' && same_set set set' && same_how how how' && nat_eq flags flags'
    && same_items bytes_eq keywords keywords' && same_number since since'
same_write (command.UidRemove set) (command.UidRemove set') = same_set set set'
same_write one other = false

-- ---- what an event changes

-- the number of durable entries
abbrev pub length_of : World → ℕ
length_of w = length w.log.entries

-- one session is changed
abbrev pub with_session : World → ℕ → Option Session → World
with_session w s session = record w { sessions = λ t. if nat_eq s t then session else w.sessions t }

-- the pending entry, where there is one, no longer runs
abbrev pub stopped : Pending → Pending
stopped p = record p { running = false }

-- no pending entry runs
abbrev pub without_running : World → World
without_running w = record w { pending = option_map stopped w.pending }

-- a pending entry is durable
abbrev pub with_entry : Log → Pending → Log
with_entry log p = over (at log (length log.entries))
  where
    over : Option Mailbox → Log
    over None = record log {
      entries = log.entries ++ record { author = p.author; group = p.group } ∷ [];
    }
    over (Some m) = with_written log p.author p.command p.received p.group m

-- Open: a session that isn't there yet begins where the log was published
abbrev pub opened : World → ℕ → World
opened w s = and_new (w.sessions s)
  where
    and_new : Option Session → World
    and_new (Some session) = w
    and_new None = with_session w s (Some (record {
      state = record new_session { told = w.published };
      seen = w.published;
      wrote = None;
      answers = [];
    }))

-- Write: an empty group is done at once; another is pending in place of an older one
abbrev pub with_group : World → ℕ → Session → Command → ℕ → Group → World
with_group w s session c received g =
    if nat_eq (length g.records) 0
    then with_session (without_running w) s (Some (record session {
      wrote = Some (record { place = length_of w; met = length_of w; command = c });
    }))
    else record w {
      pending = Some (record {
        author = s;
        command = c;
        group = g;
        received = received;
        running = true;
      });
    }

-- it may write where the log is published whole and it has answered what it wrote
abbrev pub may_write : World → Session → Command → Bool
may_write w session c =
    is_write c && nat_eq w.published (length_of w) && not (is_some session.wrote)

-- Write: a command's group is written, unless it is refused
abbrev pub written : World → ℕ → Command → ℕ → World
written w s c received = by_session (w.sessions s)
  where
    unless_refused : Session → Mailbox → Option Reply → World
    unless_refused session m (Some refusal) = w
    unless_refused session m None =
        with_group w s session c received (group_of c session.state.view m w.log.guid)

    by_mailbox : Session → Option Mailbox → World
    by_mailbox session None = w
    by_mailbox session (Some m) =
        unless_refused session m (refused_at w.log (length_of w) session.state c m)

    by_session : Option Session → World
    by_session None = w
    by_session (Some session) =
        if may_write w session c then by_mailbox session (at w.log (length_of w)) else w

-- Sync: a running entry is durable, and its author knows so
abbrev pub with_wrote : World → Pending → World
with_wrote w p = by_session (w.sessions p.author)
  where
    by_session : Option Session → World
    by_session None = w
    by_session (Some session) = with_session w p.author (Some (record session {
      wrote = Some (record { place = length_of w; met = length_of w - 1; command = p.command });
    }))

-- Sync, where an entry is pending
abbrev pub synced : World → World
synced w = by_pending w.pending
  where
    by_pending : Option Pending → World
    by_pending None = w
    by_pending (Some p) =
        if p.running
        then with_wrote (record w { log = with_entry w.log p; pending = None }) p
        else w

-- Load: all that was published, but not past the session's own write
abbrev pub loaded_number : ℕ → Option Wrote → ℕ
loaded_number published None = published
loaded_number published (Some wrote) = min published wrote.place

-- Load, of a live session
abbrev pub loaded : World → ℕ → World
loaded w s = by_session (w.sessions s)
  where
    by_session : Option Session → World
    by_session None = w
    by_session (Some session) =
        with_session w s (Some (record session { seen = loaded_number w.published session.wrote }))

-- NotSelected or NoMessage
abbrev pub is_bad : State → Command → Bool
is_bad x c = (not x.selected && not (is_select c)) || is_some (missing_number c x.view)

-- the entries behind which a command is answered and those that it met, where it may be answered
abbrev pub told_numbers : Session → Command → Option (ℕ × ℕ)
told_numbers session c = by_wrote session.wrote
  where
    by_wrote : Option Wrote → Option (ℕ × ℕ)
    by_wrote None = if is_write c then None else Some (session.seen, session.seen)
    by_wrote (Some wrote) =
        if same_write wrote.command c && nat_le wrote.place session.seen
        then Some (wrote.place, wrote.met)
        else None

-- a pending entry by the session no longer runs
abbrev pub stopped_of : ℕ → Pending → Pending
stopped_of s p = if nat_eq p.author s then stopped p else p

-- no pending entry of the session runs
abbrev pub without_running_of : World → ℕ → World
without_running_of w s = record w { pending = option_map (stopped_of s) w.pending }

-- Tell: the command is answered by the session rules
abbrev pub with_answer : World → ℕ → Session → Command → Answer → World
with_answer w s session c a = with_session (without_running_of w s) s (Some (record session {
  state = a.next;
  wrote = None;
  answers = session.answers ++ (c, a.replies) ∷ [];
}))

-- Tell, of a live session
abbrev pub told : World → ℕ → Command → World
told w s c = by_session (w.sessions s)
  where
    by_mailboxes : Session → ℕ → Option Mailbox → Option Mailbox → World
    by_mailboxes session q (Some met) (Some m) =
        with_answer w s session c (answer w.log.mail session.state c met q m (mark_of w.log q))
    by_mailboxes session q met m = w

    by_numbers : Session → Option (ℕ × ℕ) → World
    by_numbers session None = w
    by_numbers session (Some numbers) =
        by_mailboxes session numbers.0 (at w.log numbers.1) (at w.log numbers.0)

    by_session : Option Session → World
    by_session None = w
    by_session (Some session) =
        if is_bad session.state c then w else by_numbers session (told_numbers session c)

-- Crash: the durable entries stay, and the pending one may; no session is left
abbrev pub only_log : Log → World
only_log log = record {
  log = log;
  pending = None;
  published = length log.entries;
  sessions = λ s. None;
}

-- Crash, with so many entries left
abbrev pub crashed : World → ℕ → World
crashed w n = if nat_eq n (length_of w) then only_log w.log else by_pending w.pending
  where
    by_pending : Option Pending → World
    by_pending None = w
    by_pending (Some p) = if nat_eq n (length_of w + 1) then only_log (with_entry w.log p) else w

-- an event whose condition fails changes nothing
abbrev pub happens : World → Event → World
happens w (Open s) = opened w s
happens w (Write s c received) = written w s c received
happens w Sync = synced w
happens w Heal = record w { pending = None }
happens w Publish = record w { published = length_of w }
happens w (Load s) = loaded w s
happens w (Tell s c) = told w s c
happens w (Crash n) = crashed w n

-- events in turn
abbrev pub all_happen : World → List Event → World
all_happen w [] = w
all_happen w (event ∷ events) = all_happen (happens w event) events

-- ---- the beginning

-- a message of the start, with its GUID
pub record Stored : Type 0 where
  pub uid : ℕ
  pub message : Option (List ℕ)
  pub guid : List ℕ

-- a message of the start is there or damaged
abbrev pub mail_of : List Stored → ℕ → Mail
mail_of stored uid =
    of_message (option_and_then (λ s. s.message) (find (λ s. nat_eq s.uid uid) stored))
  where
    of_message : Option (List ℕ) → Mail
    of_message None = Damaged
    of_message (Some message) = Held message

-- without a message file, 16 zero bytes
abbrev pub guid_of : List Stored → ℕ → List ℕ
guid_of stored uid =
    unwrap_or (option_map (λ s. s.guid) (find (λ s. nat_eq s.uid uid) stored)) (replicate 16 0)

-- nothing was written, published or opened; long files are rotated
abbrev pub new_world : Mailbox → ℕ → Mark → List Stored → World
new_world start indexid mark stored =
    only_log (record {
      start = start;
      start_mark = mark;
      rotates = true;
      entries = [];
      indexid = indexid;
      mail = mail_of stored;
      guid = guid_of stored;
    })
