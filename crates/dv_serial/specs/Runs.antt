-- What becomes of the lines of a script, one after another.
use Rattle.std.specs.Prelude.{◌≡◌, ◌++◌, ℕ, List, [], ◌∷◌, drop, length, Result, Ok, Err, ⊤}
use Rattle.dv_model.specs.declared.types.Reply.{Reply}
use Rattle.dv_model.specs.Counts.{Rose}
use Rattle.dv_model.specs.Journals.{Log}
use Rattle.dv_model.specs.Transcripts as transcripts
use Rattle.dv_shelf.specs.Clocks.{behind}
use Rattle.dv_shelf.specs.Crashes.{LeavesOnly}
use Rattle.dv_shelf.specs.Folders.{Folder}
use Rattle.dv_shelf.specs.Streams.{Appends, AppendsFront}
use Rattle.dv_logfile.specs.Settling.{StaysSettled}
use Rattle.dv_formats.specs.Scripts.{NamedLine}
use Rattle.dv_playing.specs.Laws.{MayPlay, RiseFrom, failures_of, lines_of}
use Rattle.dv_playing.specs.Playing.{Attempt, begin, replies_to, step}
use Rattle.dv_serial.specs.declared.lines.LineEnd.{LineEnd}
use Rattle.dv_serial.specs.declared.lines.LineEnd.TheVariants as line_end
use Rattle.dv_serving.specs.Faults.{Faults}
use Rattle.dv_serial.specs.Following.{EndsAt, IsLeft, Keeps, Origin}
use Rattle.dv_serial.specs.Others.{KeepsOthers}
use Rattle.dv_serving.specs.Outputs.{Output}
use Rattle.dv_serial.specs.Places.{MayGive, play_of}
use Rattle.dv_serving.specs.Scripts.{answer_text, numbered, replies_text}
use Rattle.dv_serial.specs.Serves.{IsServed}
use Rattle.dv_serial.specs.Servings.{Serving}
use Rattle.dv_shelf.specs.Sees.{SeesFolder, SeesTime}

-- a line of a script, and the number of the session that gives it
pub record SessionLine : Type 0 where
  pub session : ℕ
  pub line : NamedLine

-- as a transcript has it
abbrev pub in_transcript : SessionLine → transcripts.Line
in_transcript by = (by.session, by.line.1)

-- The text that was being written where the output failed: the replies to the line that it wasn't
-- written for.
abbrev pub IsTried : (ℕ → ℕ) → Log → List Attempt → List Attempt → List NamedLine → List ℕ → Type 0
IsTried clock start answered (a ∷ []) (line ∷ rest) text =
    text ≡ answer_text line (step clock (play_of clock start answered) a).replies
IsTried clock start answered left lines text = ⊥

-- the bytes written: the text of the answered lines, and where the output failed a front of the
-- next line's
abbrev pub Writes : (ℕ → ℕ) → Log → List Attempt → List Attempt → List NamedLine
    → Result (Unit {0}) LineEnd → List ℕ → List ℕ → Type 0
Writes clock start answered left lines (Err (line_end.Sink faults)) old new =
    (text : List ℕ)
    × IsTried clock start answered left (drop (length answered) lines) text
    × AppendsFront (old ++ replies_text lines (replies_to clock (begin start) answered)) new text
Writes clock start answered left lines result old new =
    Appends old new (replies_text lines (replies_to clock (begin start) answered))

-- where all lines were answered, none is left; else the first of the rest is
abbrev pub EndsWith : (ℕ → ℕ) → ℕ → Log → List Attempt → List Attempt → List transcripts.Line
    → Result (Unit {0}) LineEnd → Type 0
EndsWith clock base start answered left rest (Ok done) = (rest ≡ []) × (left ≡ [])
EndsWith clock base start answered left [] (Err e) = ⊥
EndsWith clock base start answered left (line ∷ rest) (Err e) =
    IsLeft clock base (play_of clock start answered) line left

-- the clock's readings behind the answered lines, where none was left unanswered
abbrev pub HasRead : (ℕ → ℕ) → ℕ → (ℕ → ℕ) → Result (Unit {0}) LineEnd → Type 0
HasRead clock used upcoming (Ok done) = upcoming ≡ behind clock used
HasRead clock used upcoming (Err e) = ⊤

module _ {S C : Type 0} where
  -- A line was served as one step of the play, and of the text of its replies this was written.
  pub record IsTold (sees : SeesFolder S) (ticks : SeesTime C) (origin : Origin) (faults : Faults)
      (attempts : List Attempt) (line : transcripts.Line) (written : List Reply → Type 0)
      (old new : Serving S C) : Type 0 where
    pub replies : List Reply
    pub served : IsServed sees ticks origin faults attempts line replies old new
    pub output : written replies

  -- What becomes of one line of a session: it is answered, and its text written; or memory ended
  -- it, and nothing is written; or the output failed, and a front of its text is.
  abbrev pub RunsLine : SeesFolder S → SeesTime C → Origin → Faults → List Attempt → SessionLine
      → Result (Unit {0}) LineEnd → Output → Serving S C → Serving S C → Type 0
  RunsLine sees ticks origin faults attempts by (Ok done) out old new =
      IsTold sees ticks origin faults attempts (in_transcript by)
      (λ replies. out.told
      → Appends out.taken out.taken_now (answer_text by.line replies)) old new
  RunsLine sees ticks origin faults attempts by (Err line_end.NoMemory) out old new =
      EndsAt sees origin faults attempts (in_transcript by) old new
      × (out.told → out.taken_now ≡ out.taken)
  RunsLine sees ticks origin faults attempts by (Err (line_end.Sink n)) out old new =
      IsTold sees ticks origin faults attempts (in_transcript by)
      (λ replies. out.told
      → AppendsFront out.taken out.taken_now (answer_text by.line replies)) old new

  -- The first lines were answered, each as a step of one play, and the text of their replies
  -- written. The first of the others may have left its group, or be one that the disk failed. The
  -- failures of all these lines tell counts that rise up to this one. What is left keeps the play's
  -- log behind these lines; so does what a crash leaves, behind some of them. A settled folder is
  -- settled again, where no fault was counted. Files that none of them writes stay.
  pub record Runs (sees : SeesFolder S) (ticks : SeesTime C) (origin : Origin) (faults : ℕ)
      (lines : List NamedLine) (result : Result (Unit {0}) LineEnd) (out : Output)
      (old new : Serving S C) : Type 0 where
    pub answered : List Attempt
    pub left : List Attempt
    pub rest : List transcripts.Line
    pub parts : numbered lines ≡ lines_of answered ++ rest
    pub may : MayPlay origin.clock origin.start origin.base faults answered
    pub ends : EndsWith origin.clock origin.base origin.start answered left rest result
    pub failures : RiseFrom origin.base (failures_of (answered ++ left)) faults
    pub keeps : Keeps sees origin.clock origin.start (answered ++ left) new
    pub since : LeavesOnly sees old.store.shelf new.store.shelf
        (MayGive origin.clock origin.start (answered ++ left))
    pub settled : StaysSettled sees old.store.shelf new.store.shelf
    pub others : KeepsOthers origin.clock origin.start (answered ++ left)
        (sees.files old.store.shelf) (sees.files new.store.shelf)
    pub readings : ticks.tells → HasRead origin.clock
        (play_of origin.clock origin.start answered).used (ticks.upcoming new.store.clock) result
    pub output : out.told → Writes origin.clock origin.start answered left lines result
        out.taken out.taken_now

-- an error has its cause: memory, or an output whose count of faults rose and is told
abbrev pub IsCaused : ℕ → ℕ → Result (Unit {0}) LineEnd → Type 0
IsCaused before now (Err (line_end.Sink faults)) = Rose before now × (faults ≡ now)
IsCaused before now result = ⊤
