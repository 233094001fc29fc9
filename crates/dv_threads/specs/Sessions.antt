-- What sessions did that wrote the entries of one keeper.
use Rattle.std.specs.Prelude.{◌≡◌, ◌≤◌, ◌<◌, ◌+◌, ℕ, List, [], ◌∷◌, All, get_or, length, ⊤}
use Rattle.std.specs.List.{sum_by}
use mathlib.Core.List.{IsPrefix}
use Rattle.dv_model.specs.declared.types.Command.{Command}
use Rattle.dv_model.specs.declared.types.Reply.{Reply}
use Rattle.dv_model.specs.Journals.{IsU32, Log}
use Rattle.dv_model.specs.Sessions.{IsCommand}
use Rattle.dv_model.specs.Transcripts.{unavailable_count}
use Rattle.dv_stories.specs.Stories.{Progress, Story}
use Rattle.dv_front.specs.declared.notes.Note.{Note}
use Rattle.dv_notes.specs.Logs.{AreNotesOf, log_of}
use Rattle.dv_member.specs.Members.{Member, log_seen, notes_of}
use Rattle.dv_threads.specs.Scripts.{told_to}
use Rattle.dv_threads.specs.Transcripts.{AreTranscripts}

-- The session of a number was answered the first of these commands so: its story over the log that
-- it has seen. It counts the entries that it wrote, and at least the failures that it was told of.
pub record HasTold (start : Log) (count number : ℕ) (commands : List Command)
    (replies : List (List Reply)) (s : Member) : Type 0 where
  pub progress : Progress
  pub story : Story (log_seen start s) count number commands replies progress
  pub wrote : progress.wrote ≡ s.wrote
  pub refused : progress.refused ≤ s.refused

-- so was each of these, of the numbers from this one on
abbrev pub HaveTold : Log → ℕ → ℕ → List (List Command) → List (List (List Reply)) → List Member
    → Type 0
HaveTold start count first [] [] [] = ⊤
HaveTold start count first (asks ∷ rest) (told ∷ replies) (s ∷ sessions) =
    HasTold start count first asks told s × HaveTold start count (first + 1) rest replies sessions
HaveTold start count first asks replies sessions = ⊥

-- these are the commands of the numbers from 1 on
abbrev pub AreAsked : (ℕ → List Command) → List (List Command) → Type 0
AreAsked commands asks = (k : ℕ) → k < length asks → get_or asks k [] ≡ commands (k + 1)

-- ---- laws

-- Where the sessions together wrote these notes, of which each has seen a front, their transcripts
-- are of the one log.
abbrev pub SessionsWriteOneLog : Type 0
SessionsWriteOneLog = (start : Log) (count : ℕ) (notes : List Note) (commands : ℕ → List Command)
    (asks : List (List Command)) (replies : List (List (List Reply))) (sessions : List Member)
    → AreNotesOf start notes
    → All (λ (s : Member). IsPrefix (notes_of s) notes) sessions
    → sum_by (λ (s : Member). s.wrote) sessions ≡ length notes
    → HaveTold start count 1 asks replies sessions → AreAsked commands asks
    → IsU32 (length asks) → ((i : ℕ) → All IsCommand (commands i))
    → AreTranscripts (log_of start notes) count (length asks) commands (told_to replies)

-- and they count no fewer failures of the disk than they were told of
abbrev pub FewAreUnavailable : Type 0
FewAreUnavailable = (start : Log) (count first : ℕ) (asks : List (List Command))
    (replies : List (List (List Reply))) (sessions : List Member)
    → HaveTold start count first asks replies sessions
    → sum_by unavailable_count replies ≤ sum_by (λ (s : Member). s.refused) sessions
