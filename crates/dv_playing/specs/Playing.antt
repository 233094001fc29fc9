-- Lines of any number of sessions, played by the session rules one after another.
use Rattle.std.specs.Prelude.{ℕ, ◌+◌, Bool, true, false, not, ◌&&◌, ◌||◌, List, [], ◌∷◌, length, Option, Some, None, unwrap_or, nat_eq, if◌then◌else◌}
use Rattle.dv_model.specs.declared.types.Group.{Group}
use Rattle.dv_model.specs.declared.types.Mailbox.{Mailbox}
use Rattle.dv_model.specs.declared.types.Mark.{Mark}
use Rattle.dv_model.specs.declared.types.Reply.{Reply}
use Rattle.dv_model.specs.declared.types.Reply.TheVariants as reply
use Rattle.dv_model.specs.Effects.{applied}
use Rattle.dv_model.specs.Journals.{Log, is_rotation_due, mark_behind}
use Rattle.dv_model.specs.Sessions.{Answer, State, answer, group_of, is_append, new_session, refusal_of}
use Rattle.dv_model.specs.Transcripts.{Line, touches_disk, with_state, with_written}

-- ---- lines and what came of them

-- how far a rotation came that was due before a write that failed
pub data Rotation : Type 0 where
  -- it is begun anew before the next group
  DueAgain : Rotation
  -- the new file is begun, and its last replace is owed
  Owed : Rotation
  -- the new file is made
  Made : Rotation

-- what came of a line
pub data Outcome : Type 0 where
  Served : Outcome
  -- the disk failed, so often until now; where no rotation was due, it came nowhere
  Failed : ℕ → Rotation → Outcome

-- a line of a session, and what came of it
pub record Attempt : Type 0 where
  pub line : Line
  pub outcome : Outcome

-- ---- where a play stands

pub record Play : Type 0 where
  -- the start, the entries so far, and the messages with their GUIDs
  pub log : Log
  -- the mailbox and the place at its end
  pub mailbox : Mailbox
  pub mark : Mark
  -- a new file that has no group yet is begun or made
  pub begun : Bool
  pub states : ℕ → State
  -- so many readings of the clock were used
  pub used : ℕ

-- over a log that has no entry yet; no session has selected the mailbox
abbrev pub begin : Log → Play
begin log = record { log = log; mailbox = log.start; mark = log.start_mark; begun = false; states = λ s. new_session; used = 0 }

-- the one line of a command that is refused here
abbrev pub refused_here : Play → Line → Option Reply
refused_here play line = refusal_of (play.states line.0) line.1 play.mailbox play.log.rotates play.mark play.log.guid

-- the group that a command writes here
abbrev pub group_here : Play → Line → Group
group_here play line = group_of line.1 (play.states line.0).view play.mailbox play.log.guid

-- it has no record
abbrev pub is_empty : Group → Bool
is_empty g = nat_eq (length g.records) 0

-- ---- the clock

-- a new file is begun before the group
abbrev pub begins_file : Play → Bool
begins_file play = is_rotation_due play.log.rotates play.mark && not play.begun

-- so many readings are used for the new file
abbrev pub file_readings : Play → ℕ
file_readings play = if begins_file play then 1 else 0

-- and for an appended message
abbrev pub message_readings : Line → ℕ
message_readings line = if is_append line.1 then 1 else 0

-- a write with a group reads the clock for a new file, and then for a message
abbrev pub used_by : Play → Line → ℕ
used_by play line = if is_empty (group_here play line) then play.used else play.used + file_readings play + message_readings line

-- ---- one line

-- with its group as one entry more, where it has a record
abbrev pub with_group_here : (ℕ → ℕ) → Play → Line → Play
with_group_here clock play line =
    if is_empty (group_here play line) then play
    else record play {
      log = with_written play.log line.0 line.1 (clock (play.used + file_readings play)) (group_here play line) play.mailbox;
      mailbox = unwrap_or (applied play.mailbox (group_here play line).records) play.mailbox;
      mark = mark_behind play.log.rotates play.mark (group_here play line);
      begun = false;
      used = used_by play line;
    }

-- the replies to a line, and where the play stands behind it
pub record Step : Type 0 where
  pub replies : List Reply
  pub play : Play

-- a line that met the first play is answered over the second
abbrev pub told : Play → Line → Play → Step
told met line behind =
    let a : Answer = answer behind.log.mail (met.states line.0) line.1 met.mailbox (length behind.log.entries) behind.mailbox behind.mark in
    record { replies = a.replies; play = record behind { states = with_state behind.states line.0 a.next } }

-- a rotation that came so far isn't begun anew
abbrev pub is_begun : Rotation → Bool
is_begun DueAgain = false
is_begun Owed = true
is_begun Made = true

-- nothing is written: a rotation may have been begun, and the clock was read
abbrev pub behind_failure : Play → Line → Rotation → Play
behind_failure play line rotation = record play {
  begun = play.begun || (not (is_empty (group_here play line)) && begins_file play && is_begun rotation);
  used = used_by play line;
}

-- a command that isn't refused, by what came of it
abbrev pub fared : (ℕ → ℕ) → Play → Line → Outcome → Step
fared clock play line Served = told play line (with_group_here clock play line)
fared clock play line (Failed faults rotation) = record { replies = reply.Unavailable faults ∷ []; play = behind_failure play line rotation }

-- refused by one line, or by what came of it; a command that doesn't reach the disk is served
abbrev pub stepped_by : (ℕ → ℕ) → Play → Attempt → Option Reply → Step
stepped_by clock play a (Some refusal) = record { replies = refusal ∷ []; play = play }
stepped_by clock play a None = fared clock play a.line (if touches_disk a.line.1 then a.outcome else Served)

-- one line by the rules
abbrev pub step : (ℕ → ℕ) → Play → Attempt → Step
step clock play a = stepped_by clock play a (refused_here play a.line)

-- ---- all lines in turn

-- where the play stands behind them
abbrev pub played : (ℕ → ℕ) → Play → List Attempt → Play
played clock play [] = play
played clock play (a ∷ attempts) = played clock (step clock play a).play attempts

-- the replies to each of them
abbrev pub replies_to : (ℕ → ℕ) → Play → List Attempt → List (List Reply)
replies_to clock play [] = []
replies_to clock play (a ∷ attempts) = (step clock play a).replies ∷ replies_to clock (step clock play a).play attempts
