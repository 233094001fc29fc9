-- A run beside a kept search: what it writes.
use Rattle.std.proofs.Common.{◌≡◌, ◌⊎◌, inl, inr, ℕ, List, [], ◌∷◌, ◌++◌, length, map, Result, Ok, Err, refl, sym, ◌∙◌, ap, subst, append_assoc}
use Rattle.std.specs.Prelude.{None, Option}
use Rattle.std.specs.List.{list_any}
use Rattle.std.proofs.lemmas.List.{append-nil}
use Rattle.dv_model.specs.declared.types.Key.{Key}
use Rattle.dv_model.specs.declared.types.Mark.{Mark}
use Rattle.dv_model.specs.declared.types.OpenFault.{OpenFault}
use Rattle.dv_model.specs.Counts.{Rose}
use Rattle.dv_model.specs.Journals.{Log}
use Rattle.dv_model.specs.Transcripts as transcripts
use Rattle.dv_model.specs.Transcripts.{is_unavailable, unavailable_count}
use Rattle.dv_shelf.specs.Clocks.{behind}
use Rattle.dv_shelf.specs.Folders.{Folder}
use Rattle.dv_shelf.specs.Sees.{SeesFolder}
use Rattle.dv_shelf.specs.Streams.{Appends}
use Rattle.dv_formats.specs.Parsing.{ScriptFault}
use Rattle.dv_formats.specs.Scripts.{NamedLine}
use Rattle.dv_playing.specs.Laws.{lines_of}
use Rattle.dv_playing.specs.Playing.{Attempt, Play, Step, begin, replies_to, step}
use Rattle.dv_serving.specs.Outputs.{output_with}
use Rattle.dv_serving.specs.Scripts.{answer_text, numbered}
use Rattle.dv_serial.specs.Places.{play_of}
use Rattle.dv_beginning.specs.Causes.{IsFault}
use Rattle.dv_beginning.specs.Leaving.{LeavesUnopened}
use Rattle.dv_beginning.proofs.FoundStarts.{faults_one, starts_faultless, starts_one}
use Rattle.dv_watching.specs.Texts.{line_text, lines_text, told_behind}
use Rattle.dv_cli.specs.declared.ending.End.{End}
use Rattle.dv_cli.specs.declared.ending.End.TheVariants as end
use Rattle.dv_cli.specs.declared.ending.Loaded.{Loaded}
use Rattle.dv_cli.specs.Behind.{loaded_by}
use Rattle.dv_cli.specs.Causes.{AnyRose, Counts}
use Rattle.dv_cli.specs.Endings.{Concludes, text_of}
use Rattle.dv_cli.specs.Outputs.{IsOutputBeside, IsWatchOutput, all_served, last_over, output_beside, served}
use Rattle.dv_cli.specs.Running.{answered_text, fault_text}
use Rattle.dv_cli.specs.Spans.{times_with}
use Rattle.dv_cli.specs.Watching.{RunsBeside, RunsWatch, ServesBeside, WritesBeside}
use Rattle.dv_cli.proofs.AllServed.{none_of, served_so}
use Rattle.dv_cli.proofs.Statuses.{none_failed}
use Rattle.dv_cli.proofs.WholeRuns.{EndsWell, WellOr, Writes, served_play, told_plainly, unread_not_well}

-- ---- what is written of the lines

-- where the disk failed none of them it is what is written of served ones
texts_so : (clock : ℕ → ℕ) (key : Key) (play : Play) (lines : List NamedLine) (attempts : List Attempt) → unavailable_count (replies_to clock play attempts) ≡ 0
    → lines_text clock key play lines attempts ≡ lines_text clock key play lines (map served (lines_of attempts))
texts_so clock key play lines [] none = refl
texts_so clock key play [] (a ∷ attempts) none = refl
texts_so clock key play (line ∷ lines) (a ∷ attempts) none =
    let one : Step = step clock play a in
    let parts = none_of (list_any is_unavailable) one.replies (replies_to clock one.play attempts) none in
    let same : one ≡ step clock play (served a.line) = served_so clock play a parts.0 in
    ap (λ (t : List ℕ). line_text clock key play line a ++ t) (texts_so clock key one.play lines attempts parts.1)
    ∙ ap (λ (s : Step). (answer_text line s.replies ++ told_behind key play s.play) ++ lines_text clock key s.play lines (map served (lines_of attempts))) same

module _ {S : Type 0} (sees : SeesFolder S) (timed : Type 0) (clock clock_now : ℕ → ℕ) (base faults : ℕ) (key : Key) (lines : List NamedLine) (told : Type 0)
    (taken between taken_now : List ℕ) (old new : S) (tells : told) (still : Rose base faults → ⊥) where
  abbrev Serving : End → Type 0
  Serving e = ServesBeside sees (times_with timed clock clock_now) (record { before = base; now = faults }) key lines e (output_with told taken between) old new

  abbrev IsWritten : Type 0
  IsWritten = Writes taken taken_now (IsOutputBeside key lines clock (sees.files old))

  module _ (mark : Mark) (groups : ℕ) (loaded : Option Loaded) (serves : Serving (end.Answered mark groups loaded)) where
    abbrev start : Log
    start = serves.serves.start

    abbrev answered : List Attempt
    answered = serves.serves.answered

    abbrev clock_then : ℕ → ℕ
    clock_then = behind clock serves.serves.used

    all_lines : numbered lines ≡ lines_of answered
    all_lines = serves.serves.parts ∙ ap (λ (ls : List transcripts.Line). lines_of answered ++ ls) serves.serves.ends.0 ∙ append-nil (lines_of answered)

    same_play : play_of clock_then start answered ≡ play_of clock_then start (all_served lines)
    same_play = (served_play clock_then start lines answered base faults all_lines serves.serves.serial.few still).0

    same_text : lines_text clock_then key (begin start) lines answered ≡ lines_text clock_then key (begin start) lines (all_served lines)
    same_text =
        texts_so clock_then key (begin start) lines answered (none_failed _ base faults serves.serves.serial.few still)
        ∙ ap (λ (ls : List transcripts.Line). lines_text clock_then key (begin start) lines (map served ls)) (sym all_lines)

    -- the last line is that of the play
    same_last : answered_text mark groups loaded ≡ last_over clock_then None start lines
    same_last =
        (λ i. answered_text (serves.serves.ends.2 i) (serves.serves.ends.3 i) (serves.serves.ends.4 i))
        ∙ (λ i. answered_text (same_play i).mark (length (same_play i).log.entries) (loaded_by None (same_play i).mailbox))

    -- of lines that were all answered the output has the whole text
    plain : (l : Option Loaded) → WritesBeside (end.Answered mark groups l) clock_then start key answered serves.serves.left lines taken between
        → Appends taken between (lines_text clock_then key (begin start) lines answered)
    plain l writes = writes

    answered_output : Appends between taken_now (answered_text mark groups loaded) → IsWritten
    answered_output last =
        let text : List ℕ = lines_text clock_then key (begin start) lines (all_served lines) in
        let end_text : List ℕ = last_over clock_then None start lines in (
          output_beside clock_then key start lines,
          subst (λ (t : List ℕ). Appends between taken_now t) same_last last
              ∙ ap (λ (bs : List ℕ). bs ++ end_text) (subst (λ (t : List ℕ). Appends taken between t) same_text (plain loaded (serves.output tells)))
              ∙ append_assoc taken text end_text,
          (
            λ from used starts.
                let one = starts_one clock (sees.files old) start from serves.serves.used used serves.serves.starts starts in
                (λ i. output_beside (behind clock (one.1 i)) key (one.0 i) lines),
            λ f is some found.
                absurd (starts_faultless clock (sees.files old) start serves.serves.used serves.serves.starts (record { fault = f; is = is; found = found; some = some })),
          ),
        )

  -- the fault of the folder
  unopened_output : (f : OpenFault) → IsFault f → between ≡ taken → LeavesUnopened sees clock f old new → Appends between taken_now (fault_text f) → IsWritten
  unopened_output f is none leaves last = (
    fault_text f,
    last ∙ ap (λ (bs : List ℕ). bs ++ fault_text f) none,
    (
      λ start used starts.
          absurd (starts_faultless clock (sees.files old) start used starts (record { fault = f; is = is; found = leaves.found; some = leaves.some is })),
      λ g g-is some found. ap fault_text (faults_one (sees.files old) f g is g-is leaves.found found),
    ),
  )

  abbrev Running : End → Type 0
  Running e = RunsBeside sees (times_with timed clock clock_now) (record { before = base; now = faults }) key lines e (output_with told taken between) old new

  run_output : (e : End) → EndsWell e → Running e → Appends between taken_now (text_of e) → IsWritten
  run_output (end.Answered mark groups loaded) well runs last = answered_output mark groups loaded runs last
  run_output (end.Unopened f) well runs last = unopened_output f well (runs.0 tells) runs.1 last
  run_output (end.Rebuilt kept skipped) well runs last = absurd well
  run_output end.Usage well runs last = absurd well
  run_output end.NoMemory well runs last = absurd well
  run_output (end.Script s) well runs last = absurd well
  run_output (end.Source n) well runs last = absurd well
  run_output end.Sink well runs last = absurd well

  well_output : (e : End) → EndsWell e → Appends between taken_now (text_of e)
      → RunsWatch sees (times_with timed clock clock_now) (record { before = base; now = faults }) key lines e (output_with told taken between) old new → IsWritten
  well_output e well last (inl unread) = absurd (unread_not_well e well unread.0)
  well_output e well last (inr runs) = run_output e well runs last

  -- without want of memory and with nothing failed
  pub watch_output : (e : End) (status : ℕ) (before now : Counts) → WellOr status e before now → (AnyRose before now → ⊥) → (status ≡ 4 → ⊥) → (status ≡ 7 → ⊥) → Concludes e status between taken_now
      → RunsWatch sees (times_with timed clock clock_now) (record { before = base; now = faults }) key lines e (output_with told taken between) old new → IsWritten
  watch_output e status before now (inl well) none not-four not-seven last runs = well_output e well.1 (told_plainly e status between taken_now last not-four not-seven).1 runs
  watch_output e status before now (inr (inl four)) none not-four not-seven last runs = absurd (not-four four)
  watch_output e status before now (inr (inr rose)) none not-four not-seven last runs = absurd (none rose)

-- ---- by what the script says

pub watched_script : (key : Key) (read : Result (List NamedLine) ScriptFault) (clock : ℕ → ℕ) (folder : Folder) (old new : List ℕ)
    → ((lines : List NamedLine) → read ≡ Ok lines → Writes old new (IsWatchOutput key (Ok lines) clock folder))
    → ((f : ScriptFault) → read ≡ Err f → Writes old new (IsWatchOutput key (Err f) clock folder))
    → Writes old new (IsWatchOutput key read clock folder)
watched_script key (Ok lines) clock folder old new good bad = good lines refl
watched_script key (Err f) clock folder old new good bad = bad f refl
