-- What becomes of the lines of a script beside which a search is kept.
use Rattle.std.specs.Prelude.{◌≡◌, ℕ, ◌++◌, List, [], ◌∷◌, drop, length, Result, Ok, Err, ⊤}
use Rattle.dv_model.specs.declared.types.Key.{Key}
use Rattle.dv_model.specs.declared.types.Reply.{Reply}
use Rattle.dv_model.specs.Journals.{Log}
use Rattle.dv_shelf.specs.Sees.{SeesFolder, SeesTime}
use Rattle.dv_shelf.specs.Streams.{Appends, AppendsFront}
use Rattle.dv_formats.specs.Scripts.{NamedLine}
use Rattle.dv_playing.specs.Playing.{Attempt, begin}
use Rattle.dv_serving.specs.Faults.{Faults}
use Rattle.dv_serving.specs.Outputs.{Output}
use Rattle.dv_serial.specs.declared.lines.LineEnd.{LineEnd}
use Rattle.dv_serial.specs.declared.lines.LineEnd.TheVariants as line_end
use Rattle.dv_serial.specs.Following.{EndsAt, Origin}
use Rattle.dv_serial.specs.Places.{play_of}
use Rattle.dv_serial.specs.Runs.{Runs, SessionLine, in_transcript}
use Rattle.dv_serial.specs.Serves.{AreAbreast, IsServed}
use Rattle.dv_serial.specs.Servings.{Serving}
use Rattle.dv_live.specs.Keeping.{KeptSearch}
use Rattle.dv_live.specs.Laws.{IsOf}
use Rattle.dv_watching.specs.Texts.{line_text, lines_text}

-- the output failed
abbrev pub IsSinkEnd : LineEnd → Type 0
IsSinkEnd line_end.NoMemory = ⊥
IsSinkEnd (line_end.Sink faults) = ⊤

-- The text that was being written where the output failed: that of the line that it wasn't written
-- for.
abbrev pub IsTried : (ℕ → ℕ) → Log → Key → List Attempt → List Attempt → List NamedLine → List ℕ
    → Type 0
IsTried clock start key answered (a ∷ []) (line ∷ rest) text =
    text ≡ line_text clock key (play_of clock start answered) line a
IsTried clock start key answered left lines text = ⊥

-- the bytes written: the text of the answered lines, and where the output failed a front of the
-- next line's
abbrev pub Writes : (ℕ → ℕ) → Log → Key → List Attempt → List Attempt → List NamedLine
    → Result (Unit {0}) LineEnd → List ℕ → List ℕ → Type 0
Writes clock start key answered left lines (Err (line_end.Sink faults)) old new =
    (text : List ℕ)
    × IsTried clock start key answered left (drop (length answered) lines) text
    × AppendsFront (old ++ lines_text clock key (begin start) lines answered) new text
Writes clock start key answered left lines result old new =
    Appends old new (lines_text clock key (begin start) lines answered)

-- an output of which nothing is said
abbrev pub unsaid : Output → Output
unsaid out = record out { told = ⊥ }

module _ {S C : Type 0} where
  -- each session keeps up with the mailbox, of which a search of this key is kept
  pub record IsBeside (wanted : Key) (serving : Serving S C) (saved : KeptSearch) : Type 0 where
    pub key : saved.key ≡ wanted
    pub abreast : AreAbreast serving
    pub kept : IsOf saved serving.store.chain.live.mailbox

  -- A line was served as one step of the play, and of its text this was written.
  pub record IsWatched (sees : SeesFolder S) (ticks : SeesTime C) (origin : Origin)
      (faults : Faults) (attempts : List Attempt) (key : Key) (by : SessionLine)
      (written : List ℕ → Type 0) (old new : Serving S C) : Type 0 where
    pub replies : List Reply
    pub served : IsServed sees ticks origin faults attempts (in_transcript by) replies old new
    pub output : written (line_text origin.clock key
        (play_of origin.clock origin.start attempts) by.line
        (record { line = in_transcript by; outcome = served.outcome }))

  -- What becomes of one line of a session: it is answered, and its text written; or memory ended
  -- it, and nothing is written; or the output failed, and a front of its text is.
  abbrev pub WatchesLine : SeesFolder S → SeesTime C → Origin → Faults → List Attempt → Key
      → SessionLine → Result (Unit {0}) LineEnd → Output → Serving S C → Serving S C → Type 0
  WatchesLine sees ticks origin faults attempts key by (Ok done) out old new =
      IsWatched sees ticks origin faults attempts key by
      (λ text. out.told → Appends out.taken out.taken_now text) old new
  WatchesLine sees ticks origin faults attempts key by (Err line_end.NoMemory) out old new =
      EndsAt sees origin faults attempts (in_transcript by) old new
      × (out.told → out.taken_now ≡ out.taken)
  WatchesLine sees ticks origin faults attempts key by (Err (line_end.Sink n)) out old new =
      IsWatched sees ticks origin faults attempts key by
      (λ text. out.told → AppendsFront out.taken out.taken_now text) old new

  -- The lines run as they do without the search, but for what is written: behind the replies to
  -- each answered line that wrote an entry stands what the key finds in the mailbox then.
  pub record Watches (sees : SeesFolder S) (ticks : SeesTime C) (origin : Origin) (faults : ℕ)
      (key : Key) (lines : List NamedLine) (result : Result (Unit {0}) LineEnd) (out : Output)
      (old new : Serving S C) : Type 0 where
    pub runs : Runs sees ticks origin faults lines result (unsaid out) old new
    pub output : out.told → Writes origin.clock origin.start key runs.answered runs.left lines
        result out.taken out.taken_now
