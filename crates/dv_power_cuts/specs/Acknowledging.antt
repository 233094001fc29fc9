-- What a power cut leaves of the lines of a run.
use Rattle.std.specs.Prelude.{◌≡◌, ◌⊎◌, ◌+◌, ◌++◌, ◌≤◌, ℕ, List, [], ◌∷◌, drop, length, take, Some}
use Rattle.dv_model.specs.declared.types.Mailbox.{Mailbox}
use Rattle.dv_model.specs.declared.types.Mark.{Mark}
use Rattle.dv_model.specs.declared.types.Reply.{Reply}
use Rattle.dv_model.specs.Journals.{IsSound, Log, at}
use Rattle.dv_model.specs.Sessions.{State, new_session}
use Rattle.dv_model.specs.Transcripts as transcripts
use Rattle.dv_model.specs.Transcripts.{Runs}
use Rattle.dv_shelf.specs.Folders.{Folder}
use Rattle.dv_shelf.specs.Streams.{Appends, AppendsFront}
use Rattle.dv_formats.specs.Scripts.{NamedLine}
use Rattle.dv_interleavings.specs.Promises.{GoesOn}
use Rattle.dv_writing.specs.Keeping.{Gives}
use Rattle.dv_serving.specs.Outputs.{Output}
use Rattle.dv_serving.specs.Scripts.{answer_text, numbered, replies_text}
use Rattle.dv_cli.specs.declared.ending.End.{End}
use Rattle.dv_cli.specs.Endings.{text_of}
use Rattle.dv_beginning.specs.Leaving.{IsUnopened}
use Rattle.dv_beginning.specs.Starts.{Starts}

-- ---- what is kept

-- The folder opens to a log that goes on from where the run started, with its messages. The first
-- lines were answered over it, one after another: each that was answered with a mark and wrote a
-- group has it as the next entry, and no other line has one. At most one entry follows. The
-- folder's calls had failed `base` times before the run.
pub record KeepsAnswered (base : ℕ) (start : Log) (lines : List transcripts.Line)
    (replies : List (List Reply)) (c : Folder) : Type 0 where
  pub log : Log
  pub goes_on : GoesOn start log
  pub sound : IsSound log
  pub states : ℕ → State
  pub entries : ℕ
  pub answered : Runs log base (λ s. new_session) 0 (take (length replies) lines) replies states
      entries
  pub most : (entries ≤ length log.entries) × (length log.entries ≤ entries + 1)
  pub mailbox : Mailbox
  pub is : at log (length log.entries) ≡ Some mailbox
  pub mark : Mark
  pub gives : Gives log mailbox mark c

-- ---- what is written

-- some answer to the first of these lines
abbrev pub IsAnswerText : List NamedLine → List ℕ → Type 0
IsAnswerText [] text = ⊥
IsAnswerText (line ∷ rest) text = (replies : List Reply) × (text ≡ answer_text line replies)

-- a last line of a run
abbrev pub IsLastText : List ℕ → Type 0
IsLastText text = (e : End) × (text ≡ text_of e)

-- a last line was written; or, where the output failed, a front of one or of the next answer
abbrev pub WritesBehind : List NamedLine → ℕ → List ℕ → List ℕ → Type 0
WritesBehind rest status old new =
    ((text : List ℕ) × IsLastText text × Appends old new text)
    ⊎ ((status ≡ 7) × ((text : List ℕ) × (IsLastText text ⊎ IsAnswerText rest text)
    × AppendsFront old new text))

-- ---- a run

-- The run started from the mailbox that was found, or made. The answers to the first lines were
-- written in turn, and each folder that may be left keeps them.
pub record KeepsLines (clock : ℕ → ℕ) (old : Folder) (base : ℕ) (lines : List NamedLine)
    (status : ℕ) (output : Output) (leaves : Folder → Type 0) : Type 0 where
  pub start : Log
  pub used : ℕ
  pub starts : Starts clock old start used
  pub replies : List (List Reply)
  pub written : output.told → WritesBehind (drop (length replies) lines) status
      (output.taken ++ replies_text lines replies) output.taken_now
  pub kept : (c : Folder) → leaves c → KeepsAnswered base start (numbered lines) replies c

-- No line was answered: the script couldn't be read, or the folder wasn't opened. It opens to what
-- it did, or its mailbox was made.
pub record KeepsFolder (clock : ℕ → ℕ) (old : Folder) (status : ℕ) (output : Output)
    (leaves : Folder → Type 0) : Type 0 where
  pub written : output.told → WritesBehind [] status output.taken output.taken_now
  pub kept : (c : Folder) → leaves c → IsUnopened clock old c

-- Each line whose answer the output has taken is in each folder that may be left.
abbrev pub Acknowledges : (ℕ → ℕ) → Folder → ℕ → List NamedLine → ℕ → Output
    → (Folder → Type 0) → Type 0
Acknowledges clock old base lines status output leaves =
    KeepsLines clock old base lines status output leaves
    ⊎ KeepsFolder clock old status output leaves
