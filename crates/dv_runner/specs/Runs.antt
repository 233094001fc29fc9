-- What the run of a job leaves: its session's transcript over the log that the session has seen.
use Rattle.std.specs.Prelude.{◌≡◌, ◌≤◌, ◌<◌, ◌-◌, ℕ, true, false, List, [], ◌∷◌, count_by, length, min, Option, None, Some, if◌then◌else◌}
use Rattle.dv_model.specs.declared.types.Command.{Command}
use Rattle.dv_model.specs.declared.types.Reply.{Reply}
use Rattle.dv_model.specs.Counts.{last_count}
use Rattle.dv_model.specs.Journals.{Log}
use Rattle.dv_model.specs.Transcripts.{unavailable_count}
use Rattle.dv_stories.specs.Stories.{Progress, Story}
use Rattle.dv_parts.specs.Texts.{transcript_text}
use Rattle.dv_texts.specs.Lines.{Lines}
use Rattle.dv_member.specs.Members.{IsSession, Member, log_seen}
use Rattle.dv_keeper.specs.Turns.{is_marked}
use Rattle.dv_runner.specs.Serving.{lock_count}
use Rattle.dv_runner.specs.Works.{Work}

-- how many of the answers have a mark
abbrev pub marked_count : List (List Reply) → ℕ
marked_count replies = count_by is_marked replies

-- the place of the entry that a spent session left, which is the last that it has seen
abbrev pub place_left : Member → Option ℕ
place_left s = if s.spent then Some (s.seen - 1) else None

-- how far a session came, to which these answers were told
abbrev pub progress_of : Member → List (List Reply) → Progress
progress_of s replies = record {
  state = s.follower.state;
  seen = s.seen;
  wrote = s.wrote;
  refused = unavailable_count replies;
  left = place_left s;
}

-- The answers to a session's first commands: its story over the log that it has seen, and their
-- text. The disk's failure answered no more of them than the session counts, and each answer with a
-- mark is one of its turns, whose count stops at its end.
pub record IsTranscript (start : Log) (count : ℕ) (commands : List Command)
    (replies : List (List Reply)) (lines : Lines) (s : Member) : Type 0 where
  pub story : Story (log_seen start s) count s.number commands replies (progress_of s replies)
  pub text : lines.text ≡ transcript_text lines.session replies
  pub failures : unavailable_count replies ≤ s.refused
  pub turns : min (marked_count replies) last_count ≤ s.turns

-- a job's transcript has so many answers, under its session's name
pub record Tells (start : Log) (count : ℕ) (j : Work) (answered : ℕ) (lines : Lines) (s : Member)
    : Type 0 where
  pub replies : List (List Reply)
  pub many : length replies ≡ answered
  pub name : lines.session ≡ j.replies.session
  pub transcript : IsTranscript start count j.commands replies lines s

-- A job has run: number and commands stay, and its session took the lock no more often than its
-- commands need. All commands were answered exactly where it is whole, and then its session isn't
-- spent; else memory ran out at the first that wasn't. What was answered is its transcript, without
-- a part of an answer.
pub record HasRun (start : Log) (count : ℕ) (honest : Type 0) (old new : Work) : Type 0 where
  pub session : IsSession start count new.session
  pub number : new.session.number ≡ old.session.number
  pub commands : new.commands ≡ old.commands
  pub holds : new.session.holds ≤ lock_count old.commands
  pub answered : ℕ
  pub whole : new.whole ≡ true
      → (answered ≡ length old.commands) × (new.session.spent ≡ false)
  pub short : new.whole ≡ false → answered < length old.commands
  pub told : honest → Tells start count old answered new.replies new.session

-- each of these jobs has run
abbrev pub HaveRun : Log → ℕ → Type 0 → List Work → List Work → Type 0
HaveRun start count honest [] [] = Unit {0}
HaveRun start count honest [] (new ∷ news) = ⊥
HaveRun start count honest (old ∷ olds) [] = ⊥
HaveRun start count honest (old ∷ olds) (new ∷ news) =
    HasRun start count honest old new × HaveRun start count honest olds news
