-- A whole run: how it ends over the lines of a script, and what it writes.
use Rattle.std.proofs.Common.{◌≡◌, ◌⊎◌, inl, inr, ℕ, List, [], ◌++◌, length, map, Result, Ok, Err, refl, sym, ◌∙◌, ap, subst, append_assoc}
use Rattle.std.specs.Prelude.{Option, Some, None}
use Rattle.std.proofs.lemmas.List.{append-nil}
use Rattle.dv_model.specs.declared.types.Key.{Key}
use Rattle.dv_model.specs.declared.types.Mark.{Mark}
use Rattle.dv_model.specs.declared.types.OpenFault.{OpenFault}
use Rattle.dv_model.specs.declared.types.OpenFault.TheVariants as fault
use Rattle.dv_model.specs.Counts.{Rose, RoseBy}
use Rattle.dv_model.specs.Journals.{Log}
use Rattle.dv_model.specs.Transcripts as transcripts
use Rattle.dv_model.specs.Transcripts.{unavailable_count}
use Rattle.dv_shelf.specs.Clocks.{behind}
use Rattle.dv_shelf.specs.Folders.{Folder}
use Rattle.dv_shelf.specs.Streams.{Appends}
use Rattle.dv_formats.specs.Parsing.{ScriptFault, parsed}
use Rattle.dv_formats.specs.Scripts.{NamedLine}
use Rattle.dv_script.specs.Beside.{parsed_beside}
use Rattle.dv_mdbox_lines.specs.Scripts as storage
use Rattle.dv_script.specs.Sources.{ScriptFails}
use Rattle.dv_script.specs.declared.types.ScriptEnd.{ScriptEnd}
use Rattle.dv_script.specs.declared.types.ScriptEnd.TheVariants as script
use Rattle.dv_playing.specs.Laws.{lines_of}
use Rattle.dv_playing.specs.Playing.{Attempt, begin, played, replies_to}
use Rattle.dv_serving.specs.Outputs.{output_with}
use Rattle.dv_serial.specs.Places.{play_of}
use Rattle.dv_serving.specs.Scripts.{numbered, replies_text}
use Rattle.dv_cli.specs.declared.ending.End.{End}
use Rattle.dv_cli.specs.declared.ending.End.TheVariants as end
use Rattle.dv_cli.specs.Causes.{AnyRose, ComesFrom, Counts, EndsRefused, IsOr, TellsFaults, TellsScript}
use Rattle.dv_cli.specs.Endings.{Concludes, IsStatus, status_of, text_of}
use Rattle.dv_beginning.specs.Causes.{HasFault, IsFault, fault_status}
use Rattle.dv_qresync.specs.declared.types.Old.{Old}
use Rattle.dv_cli.specs.declared.words.Load.{Load}
use Rattle.dv_cli.specs.declared.words.Task.{Task}
use Rattle.dv_cli.specs.declared.words.Task.TheVariants as task
use Rattle.dv_cli.specs.declared.ending.Loaded.{Loaded}
use Rattle.dv_cli.specs.Behind.{loaded_by}
use Rattle.dv_rebuild.specs.declared.fault.RebuildFault.{RebuildFault}
use Rattle.dv_rebuild.specs.declared.fault.RebuildFault.TheVariants as rebuild_fault
use Rattle.dv_rebuild.specs.declared.rebuilding.Rebuilt.{Rebuilt}
use Rattle.dv_rebuild.specs.Rebuilding.{LeavesRebuilt}
use Rattle.dv_cli.specs.Rebuilding.{RebuildsFolder, rebuilt_end}
use Rattle.dv_notices.specs.declared.telling.Told.{Told}
use Rattle.dv_cli.specs.Outputs.{IsOutputBy, IsOutputOf, IsOutputOver, IsOutputTo, IsRebuiltOutput, IsStorageOutput, IsWatchOutput, all_served, last_over, output_over, replies_over, script_fault_text, served}
use Rattle.dv_cli.specs.Running.{answered_text, fault_text, rebuilt_text, usage_text}
use Rattle.dv_cli.specs.Runs.{RunsOver, ServesLines, WritesLines}
use Rattle.dv_beginning.specs.Leaving.{LeavesUnopened}
use Rattle.dv_beginning.specs.Starts.{Starts}
use Rattle.dv_cli.specs.Tasks.{EndsBy, HasReplies, HasScript, Reaches, RepliesTold, generated_by, load_in}
use Rattle.dv_cli.specs.Wholes.{EndsReading, IsUnread}
use Rattle.dv_cli.proofs.AllServed.{all_served_so}
use Rattle.dv_beginning.proofs.FoundStarts.{faults_one, starts_faultless, starts_one}
use Rattle.dv_cli.proofs.Reached.{good_script}
use Rattle.dv_cli.proofs.Statuses.{fault_told, none_failed}
use Rattle.dv_cli.specs.Spans.{times_with}
use Rattle.dv_shelf.specs.Sees.{SeesFolder}

-- ---- how a run over good lines ends

-- all lines were answered, or a fault was found in the folder
abbrev pub EndsWell : End → Type 0
EndsWell (end.Answered mark groups loaded) = Unit {0}
EndsWell (end.Unopened f) = IsFault f
EndsWell e = ⊥

-- so, with its own status, unless memory ran out or something outside failed
abbrev pub WellOr : ℕ → End → Counts → Counts → Type 0
WellOr status e before now =
    ((status ≡ status_of e) × EndsWell e) ⊎ (status ≡ 4) ⊎ AnyRose before now

pub unopened_well : (status : ℕ) (before now : Counts) (f : OpenFault)
    → ComesFrom before now (end.Unopened f) → status ≡ fault_status f
    → WellOr status (end.Unopened f) before now
unopened_well status before now (fault.Disk faults) cause is = inr (inr (inl cause.0))
unopened_well status before now fault.NoMemory cause is = inr (inl is)
unopened_well status before now fault.NoLog cause is = inl (is, refl)
unopened_well status before now fault.BadLogHeader cause is = inl (is, refl)
unopened_well status before now (fault.BadRecord offset) cause is = inl (is, refl)
unopened_well status before now fault.BadIndex cause is = inl (is, refl)
unopened_well status before now (fault.Gap index log) cause is = inl (is, refl)

script_well : (status : ℕ) (before now : Counts) (read : Result (List NamedLine) ScriptFault)
    (lines : List NamedLine) (s : ScriptEnd) → read ≡ Ok lines → TellsScript read (end.Script s)
    → status ≡ status_of (end.Script s) → WellOr status (end.Script s) before now
script_well status before now read lines (script.BadLine line) good tells is =
    absurd (good_script read lines _ good tells)
script_well status before now read lines script.TooLong good tells is =
    absurd (good_script read lines _ good tells)
script_well status before now read lines (script.ShortLiteral line) good tells is =
    absurd (good_script read lines _ good tells)
script_well status before now read lines script.NoMemory good tells is = inr (inl is)

-- a task that reads a script and comes to its folder has a good one
reads_good : (t : Option Task) (told : Type 0) (read : Result (List NamedLine) ScriptFault)
    → HasScript t → Reaches t told read → told × (lines : List NamedLine) × (read ≡ Ok lines)
reads_good (Some task.Run) told read has reaches = reaches
reads_good (Some (task.Watch key)) told read has reaches = reaches
reads_good (Some task.Rebuild) told read has reaches = absurd has
reads_good (Some (task.Generate load)) told read has reaches = absurd has
reads_good (Some (task.Resync client)) told read has reaches = absurd has
reads_good (Some task.Storage) told read has reaches = reaches
reads_good None told read has reaches = absurd has

-- a script that is refused is that of such a task
refused_well : (status : ℕ) (before now : Counts) (t : Option Task) (told : Type 0)
    (read : Result (List NamedLine) ScriptFault) (s : ScriptEnd)
    → Reaches t told read → HasScript t → (HasScript t → told → TellsScript read (end.Script s))
    → status ≡ status_of (end.Script s) → WellOr status (end.Script s) before now
refused_well status before now t told read s reaches run tells is =
    let has = reads_good t told read run reaches in
    script_well status before now read has.1 s has.2 (tells run has.0) is

own_status : (status : ℕ) (before now : Counts) (t : Option Task) (told : Type 0)
    (read : Result (List NamedLine) ScriptFault) (e : End)
    → Reaches t told read → EndsBy t e → (HasScript t → told → TellsScript read e)
    → ComesFrom before now e → status ≡ status_of e → WellOr status e before now
own_status status before now t told read (end.Answered mark groups loaded) reaches by tells cause is = inl (is, tt)
own_status status before now t told read (end.Rebuilt kept skipped) reaches by tells cause is =
    absurd (subst (λ (x : Option Task). Reaches x told read) by reaches)
own_status status before now t told read end.Usage reaches by tells cause is =
    absurd (subst (λ (x : Option Task). Reaches x told read) by reaches)
own_status status before now t told read (end.Unopened f) reaches by tells cause is =
    unopened_well status before now f cause is
own_status status before now t told read end.NoMemory reaches by tells cause is = inr (inl is)
own_status status before now t told read (end.Script s) reaches by tells cause is =
    refused_well status before now t told read s reaches by tells is
own_status status before now t told read (end.Source faults) reaches by tells cause is =
    inr (inr (inr (inl cause.0)))
own_status status before now t told read end.Sink reaches by tells cause is =
    inr (inr (inr (inr cause)))

pub ends_well : (status : ℕ) (before now : Counts) (t : Option Task) (told : Type 0)
    (read : Result (List NamedLine) ScriptFault) (e : End)
    → Reaches t told read → EndsBy t e → (HasScript t → told → TellsScript read e)
    → ComesFrom before now e → IsStatus e status → (status ≡ 7 → Rose before.output now.output)
    → WellOr status e before now
ends_well status before now t told read e reaches by tells cause (inl is) sink =
    own_status status before now t told read e reaches by tells cause is
ends_well status before now t told read e reaches by tells cause (inr (inl four)) sink = inr (inl four.1)
ends_well status before now t told read e reaches by tells cause (inr (inr seven)) sink =
    inr (inr (inr (inr (sink seven))))

-- a script that couldn't be read doesn't end it so
pub unread_not_well : (e : End) → EndsWell e → EndsReading e → ⊥
unread_not_well (end.Answered mark groups loaded) well ends = ends
unread_not_well (end.Rebuilt kept skipped) well ends = well
unread_not_well (end.Unopened f) well ends = ends
unread_not_well end.Usage well ends = well
unread_not_well end.NoMemory well ends = well
unread_not_well (end.Script s) well ends = well
unread_not_well (end.Source n) well ends = well
unread_not_well end.Sink well ends = well

-- where a fault is found it is told
well_fault : (status : ℕ) (before now : Counts) (folder : Folder) (e : End)
    → TellsFaults folder e → HasFault folder → status ≡ status_of e → EndsWell e
    → IsOr 3 status before now
well_fault status before now folder (end.Answered mark groups loaded) tells has is well = absurd (tells has)
well_fault status before now folder (end.Rebuilt kept skipped) tells has is well = absurd well
well_fault status before now folder end.Usage tells has is well = absurd well
well_fault status before now folder (end.Unopened f) tells has is well = inl (is ∙ well)
well_fault status before now folder end.NoMemory tells has is well = absurd well
well_fault status before now folder (end.Script s) tells has is well = absurd well
well_fault status before now folder (end.Source faults) tells has is well = absurd well
well_fault status before now folder end.Sink tells has is well = absurd well

pub fault_is_told : (status : ℕ) (before now : Counts) (folder : Folder) (e : End)
    → TellsFaults folder e → HasFault folder → WellOr status e before now
    → IsOr 3 status before now
fault_is_told status before now folder e tells has (inl well) =
    well_fault status before now folder e tells has well.0 well.1
fault_is_told status before now folder e tells has (inr other) = inr other

-- where a mailbox is found or made all lines are answered
well_starts : (status : ℕ) (before now : Counts) (clock : ℕ → ℕ) (folder : Folder) (start : Log)
    (used : ℕ) (e : End) → TellsFaults folder e → Starts clock folder start used
    → status ≡ status_of e → EndsWell e → IsOr 0 status before now
well_starts status before now clock folder start used (end.Answered mark groups loaded) tells starts is well =
    inl is
well_starts status before now clock folder start used (end.Rebuilt kept skipped) tells starts is well = absurd well
well_starts status before now clock folder start used end.Usage tells starts is well = absurd well
well_starts status before now clock folder start used (end.Unopened f) tells starts is well =
    absurd (starts_faultless clock folder start used starts (fault_told folder f tells well))
well_starts status before now clock folder start used end.NoMemory tells starts is well = absurd well
well_starts status before now clock folder start used (end.Script s) tells starts is well = absurd well
well_starts status before now clock folder start used (end.Source faults) tells starts is well =
    absurd well
well_starts status before now clock folder start used end.Sink tells starts is well = absurd well

pub start_is_served : (status : ℕ) (before now : Counts) (clock : ℕ → ℕ) (folder : Folder)
    (start : Log) (used : ℕ) (e : End) → TellsFaults folder e → Starts clock folder start used
    → WellOr status e before now → IsOr 0 status before now
start_is_served status before now clock folder start used e tells starts (inl well) =
    well_starts status before now clock folder start used e tells starts well.0 well.1
start_is_served status before now clock folder start used e tells starts (inr other) = inr other

-- ---- the last line

-- without want of memory and a failed output the last line is the end's
pub told_plainly : (e : End) (status : ℕ) (old new : List ℕ) → Concludes e status old new
    → (status ≡ 4 → ⊥) → (status ≡ 7 → ⊥) → (status ≡ status_of e) × Appends old new (text_of e)
told_plainly e status old new (inl told) not-four not-seven = told
told_plainly e status old new (inr (inl four)) not-four not-seven = absurd (not-four four.1)
told_plainly e status old new (inr (inr (inl seven))) not-four not-seven = absurd (not-seven seven.0)
told_plainly e status old new (inr (inr (inr seven))) not-four not-seven =
    absurd (not-seven seven.1)

-- ---- what is written

-- some text is new, and is one of these
abbrev pub Writes : List ℕ → List ℕ → (List ℕ → Type 0) → Type 0
Writes old new Is = (text : List ℕ) × Appends old new text × Is text

-- of a script that is refused
abbrev fault_text_of : Result (List NamedLine) ScriptFault → List ℕ
fault_text_of (Ok lines) = []
fault_text_of (Err f) = script_fault_text f

refused_script : (f : ScriptFault) (s : ScriptEnd) → ScriptFails {Y = List NamedLine} s (Err f)
    → (status_of (end.Script s) ≡ 4 → ⊥) → text_of (end.Script s) ≡ script_fault_text f
refused_script f (script.BadLine line) fails not-four = sym (ap fault_text_of fails)
refused_script f script.TooLong fails not-four = sym (ap fault_text_of fails)
refused_script f (script.ShortLiteral line) fails not-four = sym (ap fault_text_of fails)
refused_script f script.NoMemory fails not-four = absurd (not-four refl)

refused_text : (f : ScriptFault) (before now : Counts) (status : ℕ) (e : End) → EndsRefused f e
    → ComesFrom before now e → status ≡ status_of e → (status ≡ 4 → ⊥)
    → (AnyRose before now → ⊥) → text_of e ≡ script_fault_text f
refused_text f before now status (end.Script s) ends cause is not-four still =
    refused_script f s ends (λ at. not-four (is ∙ at))
refused_text f before now status (end.Source faults) ends cause is not-four still =
    absurd (still (inr (inl cause.0)))
refused_text f before now status end.NoMemory ends cause is not-four still = absurd (not-four is)
refused_text f before now status (end.Answered mark groups loaded) ends cause is not-four still = absurd ends
refused_text f before now status (end.Rebuilt kept skipped) ends cause is not-four still = absurd ends
refused_text f before now status end.Usage ends cause is not-four still = absurd ends
refused_text f before now status (end.Unopened g) ends cause is not-four still = absurd ends
refused_text f before now status end.Sink ends cause is not-four still = absurd ends

pub refused_output : (f : ScriptFault) (before now : Counts) (status : ℕ) (e : End)
    (clock : ℕ → ℕ) (folder : Folder) (old new : List ℕ) → EndsRefused f e
    → ComesFrom before now e → (status ≡ 4 → ⊥) → (status ≡ 7 → ⊥) → (AnyRose before now → ⊥)
    → Concludes e status old new → Writes old new (IsOutputBy (Err f) clock folder)
refused_output f before now status e clock folder old new ends cause not-four not-seven still told =
    let plain = told_plainly e status old new told not-four not-seven in
    (text_of e, plain.1, refused_text f before now status e ends cause plain.0 not-four still)

-- ---- of the lines of a task

some_none : (load : Load) → Some load ≡ None → ⊥
some_none load is = subst IsThere is tt
  where
    IsThere : Option Load → Type 0
    IsThere (Some l) = Unit {0}
    IsThere None = ⊥

-- all lines were served, none of which the disk failed
pub served_play : (clock : ℕ → ℕ) (start : Log) (lines : List NamedLine) (answered : List Attempt)
    (base faults : ℕ) → numbered lines ≡ lines_of answered
    → RoseBy (unavailable_count (replies_to clock (begin start) answered)) base faults
    → (Rose base faults → ⊥)
    → (play_of clock start answered ≡ play_of clock start (all_served lines))
    × (replies_text lines (replies_to clock (begin start) answered) ≡ replies_over clock start lines)
served_play clock start lines answered base faults are few still =
    let none = none_failed _ base faults few still in
    let so = all_served_so clock (begin start) answered none in
    let as_lines : map served (lines_of answered) ≡ all_served lines =
    ap (λ (ls : List transcripts.Line). map served ls) (sym are) in
    let replies : replies_to clock (begin start) answered ≡ replies_to clock (begin start) (all_served lines) =
    so.replies ∙ ap (replies_to clock (begin start)) as_lines in (
      so.behind ∙ ap (played clock (begin start)) as_lines,
      ap (replies_text lines) replies,
    )

module _ {S : Type 0} (sees : SeesFolder S) (timed : Type 0) (clock clock_now : ℕ → ℕ) (base faults : ℕ)
    (t : Option Task) (lines : List NamedLine) (told : Type 0)
    (taken between taken_now : List ℕ) (old new : S) (still : Rose base faults → ⊥) where
  abbrev Serving : End → Type 0
  Serving e = ServesLines sees (times_with timed clock clock_now) (record { before = base; now = faults }) (load_in t) lines e (output_with (RepliesTold t told) taken between) old new

  module _ (mark : Mark) (groups : ℕ) (loaded : Option Loaded) (serves : Serving (end.Answered mark groups loaded)) where
    abbrev clock_then : ℕ → ℕ
    clock_then = behind clock serves.used

    same_play : (play_of clock_then serves.start serves.answered ≡ play_of clock_then serves.start (all_served lines))
        × (replies_text lines (replies_to clock_then (begin serves.start) serves.answered) ≡ replies_over clock_then serves.start lines)
    same_play =
        served_play clock_then serves.start lines serves.answered base faults
        (serves.parts ∙ ap (λ (ls : List transcripts.Line). lines_of serves.answered ++ ls) serves.ends.0 ∙ append-nil (lines_of serves.answered))
        serves.serial.few still

    -- the last lines are those of the play
    same_last : answered_text mark groups loaded ≡ last_over clock_then (load_in t) serves.start lines
    same_last =
        (λ i. answered_text (serves.ends.2 i) (serves.ends.3 i) (serves.ends.4 i))
        ∙ (λ i. answered_text (same_play.0 i).mark (length (same_play.0 i).log.entries) (loaded_by (load_in t) (same_play.0 i).mailbox))

    -- of a script the replies stand before them
    written : (x : Option Task) (load : Option Load) → HasReplies x → load ≡ load_in x
        → (RepliesTold x told → Appends taken between (replies_over clock_then serves.start lines))
        → ((HasScript x → ⊥) → between ≡ taken) → told
        → Appends between taken_now (last_over clock_then load serves.start lines)
        → Appends taken taken_now (output_over clock_then load serves.start lines)
    written (Some task.Run) None opens is replies silent tells last =
        last ∙ ap (λ (bs : List ℕ). bs ++ last_over clock_then None serves.start lines) (replies tells)
        ∙ append_assoc taken (replies_over clock_then serves.start lines) (last_over clock_then None serves.start lines)
    written (Some task.Run) (Some load) opens is replies silent tells last = absurd (some_none load is)
    written (Some (task.Generate load)) (Some other) opens is replies silent tells last =
        last ∙ ap (λ (bs : List ℕ). bs ++ last_over clock_then (Some other) serves.start lines) (silent (λ none. none))
    written (Some (task.Generate load)) None opens is replies silent tells last = absurd (some_none load (sym is))
    written (Some task.Rebuild) load opens is replies silent tells last = absurd opens
    written (Some (task.Resync client)) load opens is replies silent tells last = absurd opens
    written (Some (task.Watch key)) load opens is replies silent tells last = absurd opens
    written (Some task.Storage) load opens is replies silent tells last = absurd opens
    written None load opens is replies silent tells last = absurd opens

    -- of lines that were all answered the output has all replies
    plain : (l : Option Loaded) → WritesLines (end.Answered mark groups l) clock_then serves.start serves.answered serves.left lines taken between
        → Appends taken between (replies_text lines (replies_to clock_then (begin serves.start) serves.answered))
    plain l writes = writes

    answered_output : told → HasReplies t → ((HasScript t → ⊥) → between ≡ taken)
        → Appends between taken_now (answered_text mark groups loaded)
        → Writes taken taken_now (IsOutputOver (load_in t) lines clock (sees.files old))
    answered_output tells opens silent last = (
      output_over clock_then (load_in t) serves.start lines,
      written t (load_in t) opens refl
          (λ has. subst (λ (text : List ℕ). Appends taken between text) same_play.1 (plain loaded (serves.output has)))
          silent tells (subst (λ (text : List ℕ). Appends between taken_now text) same_last last),
      (
        λ start used starts.
            let one = starts_one clock (sees.files old) serves.start start serves.used used serves.starts starts in
            (λ i. output_over (behind clock (one.1 i)) (load_in t) (one.0 i) lines),
        λ f is some found.
            absurd (starts_faultless clock (sees.files old) serves.start serves.used serves.starts (record { fault = f; is = is; found = found; some = some })),
      ),
    )

  unopened_output : (f : OpenFault) → IsFault f → between ≡ taken
      → LeavesUnopened sees clock f old new
      → Appends between taken_now (fault_text f)
      → Writes taken taken_now (IsOutputOver (load_in t) lines clock (sees.files old))
  unopened_output f is none leaves last = (
    fault_text f,
    last ∙ ap (λ (bs : List ℕ). bs ++ fault_text f) none,
    (
      λ start used starts.
          absurd (starts_faultless clock (sees.files old) start used starts (record { fault = f; is = is; found = leaves.found; some = leaves.some is })),
      λ g g-is some found. ap fault_text (faults_one (sees.files old) f g is g-is leaves.found found),
    ),
  )

  -- a folder that isn't opened has nothing written before its last line
  nothing_before : (x : Option Task) → HasReplies x → (RepliesTold x told → between ≡ taken)
      → ((HasScript x → ⊥) → between ≡ taken) → told → between ≡ taken
  nothing_before (Some task.Run) opens replies silent tells = replies tells
  nothing_before (Some (task.Generate load)) opens replies silent tells = silent (λ none. none)
  nothing_before (Some task.Rebuild) opens replies silent tells = absurd opens
  nothing_before (Some (task.Resync client)) opens replies silent tells = absurd opens
  nothing_before (Some (task.Watch key)) opens replies silent tells = absurd opens
  nothing_before (Some task.Storage) opens replies silent tells = absurd opens
  nothing_before None opens replies silent tells = absurd opens

  module _ (tells : told) (opens : HasReplies t) (silent : (HasScript t → ⊥) → between ≡ taken) where
    abbrev Running : End → Type 0
    Running e = RunsOver sees (times_with timed clock clock_now) (record { before = base; now = faults }) (load_in t) lines e (output_with (RepliesTold t told) taken between) old new

    run_output : (e : End) → EndsWell e → Running e → Appends between taken_now (text_of e)
        → Writes taken taken_now (IsOutputOver (load_in t) lines clock (sees.files old))
    run_output (end.Answered mark groups loaded) well runs last = answered_output mark groups loaded runs tells opens silent last
    run_output (end.Unopened f) well runs last = unopened_output f well (nothing_before t opens runs.0 silent tells) runs.1 last
    run_output (end.Rebuilt kept skipped) well runs last = absurd well
    run_output end.Usage well runs last = absurd well
    run_output end.NoMemory well runs last = absurd well
    run_output (end.Script s) well runs last = absurd well
    run_output (end.Source n) well runs last = absurd well
    run_output end.Sink well runs last = absurd well

    well_output : (e : End) → EndsWell e → Appends between taken_now (text_of e)
        → IsUnread e taken between old new ⊎ Running e
        → Writes taken taken_now (IsOutputOver (load_in t) lines clock (sees.files old))
    well_output e well last (inl unread) = absurd (unread_not_well e well unread.0)
    well_output e well last (inr runs) = run_output e well runs last

    pub lines_output : (e : End) (status : ℕ) (before now : Counts) → WellOr status e before now
        → (AnyRose before now → ⊥) → (status ≡ 4 → ⊥) → (status ≡ 7 → ⊥)
        → Concludes e status between taken_now
        → IsUnread e taken between old new ⊎ Running e
        → Writes taken taken_now (IsOutputOver (load_in t) lines clock (sees.files old))
    lines_output e status before now (inl well) none not-four not-seven last runs =
        well_output e well.1 (told_plainly e status between taken_now last not-four not-seven).1 runs
    lines_output e status before now (inr (inl four)) none not-four not-seven last runs =
        absurd (not-four four)
    lines_output e status before now (inr (inr rose)) none not-four not-seven last runs =
        absurd (none rose)

-- ---- of a rebuild

-- it kept and skipped what it says, unless memory ran out or the disk failed
pub rebuilt_output : {S : Type 0} (sees : SeesFolder S) (timed : Type 0) (clock clock_now : ℕ → ℕ) (e : End)
    (said : Told) (old_shelf new_shelf : S) (status : ℕ) (before now : Counts)
    (old new : List ℕ)
    → timed → RebuildsFolder sees (times_with timed clock clock_now) e said old_shelf new_shelf
    → ComesFrom before now e → (AnyRose before now → ⊥) → (status ≡ 4 → ⊥) → (status ≡ 7 → ⊥)
    → Concludes e status old new → Writes old new (IsRebuiltOutput clock (sees.files old_shelf))
rebuilt_output sees timed clock clock_now e said old_shelf new_shelf status before now old new tells rebuilds cause still not-four not-seven last =
    by_result rebuilds.result rebuilds.told
    (subst (λ (n : ℕ). LeavesRebuilt (sees.files old_shelf) n (sees.files new_shelf) rebuilds.result) (rebuilds.clock tells) rebuilds.leaves)
  where
    plain : (status ≡ status_of e) × Appends old new (text_of e)
    plain = told_plainly e status old new last not-four not-seven

    by_result : (r : Result Rebuilt RebuildFault) → e ≡ rebuilt_end r → LeavesRebuilt (sees.files old_shelf) (clock 0) (sees.files new_shelf) r
        → Writes old new (IsRebuiltOutput clock (sees.files old_shelf))
    by_result (Ok rebuilt) told leaves = (
      text_of e,
      plain.1,
      record {
        does = leaves.made.does;
        is = leaves.made.is;
        text_is = ap text_of told ∙ (λ i. rebuilt_text (leaves.tells.kept i) (leaves.tells.skipped i));
      },
    )
    by_result (Err rebuild_fault.NoMemory) told leaves = absurd (not-four (plain.0 ∙ ap status_of told))
    by_result (Err (rebuild_fault.Disk faults)) told leaves =
        absurd (still (inl (subst (λ (x : End). ComesFrom before now x) told cause).0))

-- ---- by what the script says, and by the task

pub script_output : (read : Result (List NamedLine) ScriptFault) (clock : ℕ → ℕ) (folder : Folder)
    (old new : List ℕ)
    → ((lines : List NamedLine) → read ≡ Ok lines
    → Writes old new (IsOutputBy (Ok lines) clock folder))
    → ((f : ScriptFault) → read ≡ Err f → Writes old new (IsOutputBy (Err f) clock folder))
    → Writes old new (IsOutputBy read clock folder)
script_output (Ok lines) clock folder old new good bad = good lines refl
script_output (Err f) clock folder old new good bad = bad f refl

pub task_output : (t : Option Task) (b : List ℕ) (clock : ℕ → ℕ) (folder : Folder)
    (old new : List ℕ)
    → (t ≡ None → Writes old new (λ text. text ≡ usage_text))
    → (t ≡ Some task.Run → Writes old new (IsOutputBy (parsed b) clock folder))
    → (t ≡ Some task.Rebuild → Writes old new (IsRebuiltOutput clock folder))
    → ((load : Load) → t ≡ Some (task.Generate load)
    → Writes old new (IsOutputOver (Some load) (generated_by load) clock folder))
    → ((client : Old) → t ≡ Some (task.Resync client)
    → Writes old new (IsOutputTo client clock folder))
    → ((key : Key) → t ≡ Some (task.Watch key)
    → Writes old new (IsWatchOutput key (parsed_beside b) clock folder))
    → (t ≡ Some task.Storage → Writes old new (IsStorageOutput (storage.parsed b) folder))
    → Writes old new (IsOutputOf t b clock folder)
task_output None b clock folder old new nothing script rebuild load resync watch calls = nothing refl
task_output (Some task.Run) b clock folder old new nothing script rebuild load resync watch calls = script refl
task_output (Some task.Rebuild) b clock folder old new nothing script rebuild load resync watch calls = rebuild refl
task_output (Some (task.Generate l)) b clock folder old new nothing script rebuild load resync watch calls = load l refl
task_output (Some (task.Resync client)) b clock folder old new nothing script rebuild load resync watch calls = resync client refl
task_output (Some (task.Watch key)) b clock folder old new nothing script rebuild load resync watch calls = watch key refl
task_output (Some task.Storage) b clock folder old new nothing script rebuild load resync watch calls = calls refl
