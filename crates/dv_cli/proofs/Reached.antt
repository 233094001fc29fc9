-- How a run ends before its last line.
use Rattle.std.proofs.Common.{◌≡◌, ℕ, List, Result, Ok, Err, sym, ◌∙◌, subst}
use Rattle.std.specs.Prelude.{IsSome, None, Option, Some}
use Rattle.dv_model.specs.Counts.{Rose}
use Rattle.dv_model.specs.declared.types.OpenFault.{OpenFault}
use Rattle.dv_model.specs.declared.types.OpenFault.TheVariants as fault
use Rattle.dv_shelf.specs.Folders.{Folder}
use Rattle.dv_formats.specs.Parsing.{ScriptFault}
use Rattle.dv_formats.specs.Scripts.{NamedLine}
use Rattle.dv_script.specs.Sources.{ScriptFails}
use Rattle.dv_script.specs.declared.types.ScriptEnd.{ScriptEnd}
use Rattle.dv_script.specs.declared.types.ScriptEnd.TheVariants as script
use Rattle.dv_cli.specs.Tasks.{EndsBy, HasAnswers, HasScript, Opens, script_task}
use Rattle.dv_cli.specs.declared.scripts.Reader.{Reader}
use Rattle.dv_cli.specs.declared.scripts.Reader.TheVariants as reader
use Rattle.dv_cli.specs.declared.words.Task.{Task}
use Rattle.dv_cli.specs.declared.ending.End.{End}
use Rattle.dv_cli.specs.declared.ending.End.TheVariants as end
use Rattle.dv_cli.specs.Causes.{ComesFrom, EndsRefused, FolderCause, IsReadEnd, ScriptEnds, TakesByEnd, TakesForCalls, TakesForRun, TellsFaults, TellsScript, counts_of}
use Rattle.dv_cli.specs.Wholes.{EndsReading}

-- ---- lines that are served over a folder

unopened_comes : (shelf shelf_now source source_now out out_now : ℕ) (f : OpenFault)
    → FolderCause shelf shelf_now out out_now (end.Unopened f)
    → ComesFrom (counts_of shelf source out) (counts_of shelf_now source_now out_now) (end.Unopened f)
unopened_comes shelf shelf_now source source_now out out_now (fault.Disk faults) cause = cause
unopened_comes shelf shelf_now source source_now out out_now fault.NoMemory cause = tt
unopened_comes shelf shelf_now source source_now out out_now fault.NoLog cause = tt
unopened_comes shelf shelf_now source source_now out out_now fault.BadLogHeader cause = tt
unopened_comes shelf shelf_now source source_now out out_now (fault.BadRecord offset) cause = tt
unopened_comes shelf shelf_now source source_now out out_now fault.BadIndex cause = tt
unopened_comes shelf shelf_now source source_now out out_now (fault.Gap index log) cause = tt

pub folder_comes : (shelf shelf_now source source_now out out_now : ℕ) (e : End)
    → FolderCause shelf shelf_now out out_now e
    → ComesFrom (counts_of shelf source out) (counts_of shelf_now source_now out_now) e
folder_comes shelf shelf_now source source_now out out_now (end.Answered mark groups loaded) cause = tt
folder_comes shelf shelf_now source source_now out out_now (end.Rebuilt kept skipped) cause = tt
folder_comes shelf shelf_now source source_now out out_now end.Usage cause = tt
folder_comes shelf shelf_now source source_now out out_now (end.Unopened f) cause =
    unopened_comes shelf shelf_now source source_now out out_now f cause
folder_comes shelf shelf_now source source_now out out_now end.NoMemory cause = tt
folder_comes shelf shelf_now source source_now out out_now (end.Script s) cause = tt
folder_comes shelf shelf_now source source_now out out_now (end.Source faults) cause = absurd cause
folder_comes shelf shelf_now source source_now out out_now end.Sink cause = cause

pub folder_script : (shelf shelf_now out out_now : ℕ) (read : Result (List NamedLine) ScriptFault)
    (lines : List NamedLine) (e : End) → FolderCause shelf shelf_now out out_now e
    → read ≡ Ok lines → TellsScript read e
folder_script shelf shelf_now out out_now read lines (end.Answered mark groups loaded) cause is = (lines, is)
folder_script shelf shelf_now out out_now read lines (end.Rebuilt kept skipped) cause is = absurd cause
folder_script shelf shelf_now out out_now read lines end.Usage cause is = cause
folder_script shelf shelf_now out out_now read lines (end.Unopened f) cause is = (lines, is)
folder_script shelf shelf_now out out_now read lines end.NoMemory cause is = tt
folder_script shelf shelf_now out out_now read lines (end.Script s) cause is = absurd cause
folder_script shelf shelf_now out out_now read lines (end.Source faults) cause is = absurd cause
folder_script shelf shelf_now out out_now read lines end.Sink cause is = (lines, is)

pub folder_takes : (shelf shelf_now out out_now lines : ℕ) (old new : ℕ → ℕ) (e : End)
    → FolderCause shelf shelf_now out out_now e → TakesForRun lines old new e
    → TakesByEnd old new e
folder_takes shelf shelf_now out out_now lines old new (end.Answered mark groups loaded) cause takes = tt
folder_takes shelf shelf_now out out_now lines old new (end.Rebuilt kept skipped) cause takes = tt
folder_takes shelf shelf_now out out_now lines old new end.Usage cause takes = absurd cause
folder_takes shelf shelf_now out out_now lines old new (end.Unopened f) cause takes = takes
folder_takes shelf shelf_now out out_now lines old new end.NoMemory cause takes = tt
folder_takes shelf shelf_now out out_now lines old new (end.Script s) cause takes = absurd cause
folder_takes shelf shelf_now out out_now lines old new (end.Source n) cause takes = absurd cause
folder_takes shelf shelf_now out out_now lines old new end.Sink cause takes = tt

pub calls_take : (shelf shelf_now out out_now : ℕ) (old new : ℕ → ℕ) (e : End)
    → FolderCause shelf shelf_now out out_now e → TakesForCalls old new e → TakesByEnd old new e
calls_take shelf shelf_now out out_now old new (end.Answered mark groups loaded) cause takes = tt
calls_take shelf shelf_now out out_now old new (end.Rebuilt kept skipped) cause takes = absurd cause
calls_take shelf shelf_now out out_now old new end.Usage cause takes = absurd cause
calls_take shelf shelf_now out out_now old new (end.Unopened f) cause takes = takes
calls_take shelf shelf_now out out_now old new end.NoMemory cause takes = tt
calls_take shelf shelf_now out out_now old new (end.Script s) cause takes = absurd cause
calls_take shelf shelf_now out out_now old new (end.Source n) cause takes = absurd cause
calls_take shelf shelf_now out out_now old new end.Sink cause takes = tt

-- ---- a script that isn't served

pub read_comes : (shelf source source_now out : ℕ) (e : End) → IsReadEnd e source source_now
    → ComesFrom (counts_of shelf source out) (counts_of shelf source_now out) e
read_comes shelf source source_now out (end.Answered mark groups loaded) is = tt
read_comes shelf source source_now out (end.Rebuilt kept skipped) is = tt
read_comes shelf source source_now out end.Usage is = tt
read_comes shelf source source_now out (end.Unopened f) is = absurd is
read_comes shelf source source_now out end.NoMemory is = tt
read_comes shelf source source_now out (end.Script s) is = tt
read_comes shelf source source_now out (end.Source faults) is = is
read_comes shelf source source_now out end.Sink is = absurd is

pub read_script : (read : Result (List NamedLine) ScriptFault) (e : End)
    → ScriptEnds e read → TellsScript read e
read_script read (end.Answered mark groups loaded) is = absurd is
read_script read (end.Rebuilt kept skipped) is = absurd is
read_script read end.Usage is = is
read_script read (end.Unopened f) is = absurd is
read_script read end.NoMemory is = tt
read_script read (end.Script s) is = is
read_script read (end.Source faults) is = tt
read_script read end.Sink is = absurd is

pub read_faults : (folder : Folder) (before now : ℕ) (e : End) → IsReadEnd e before now
    → TellsFaults folder e
read_faults folder before now (end.Answered mark groups loaded) is = absurd is
read_faults folder before now (end.Rebuilt kept skipped) is = absurd is
read_faults folder before now end.Usage is = tt
read_faults folder before now (end.Unopened f) is = absurd is
read_faults folder before now end.NoMemory is = tt
read_faults folder before now (end.Script s) is = tt
read_faults folder before now (end.Source faults) is = tt
read_faults folder before now end.Sink is = tt

pub read_takes_none : (before now : ℕ) (old new : ℕ → ℕ) (e : End) → IsReadEnd e before now
    → new ≡ old → TakesByEnd old new e
read_takes_none before now old new (end.Answered mark groups loaded) is same = tt
read_takes_none before now old new (end.Rebuilt kept skipped) is same = tt
read_takes_none before now old new end.Usage is same = same
read_takes_none before now old new (end.Unopened f) is same = absurd is
read_takes_none before now old new end.NoMemory is same = tt
read_takes_none before now old new (end.Script s) is same = same
read_takes_none before now old new (end.Source faults) is same = same
read_takes_none before now old new end.Sink is same = tt

abbrev pub IsGood : Result (List NamedLine) ScriptFault → Type 0
IsGood (Ok lines) = Unit {0}
IsGood (Err f) = ⊥

pub good_script : (read : Result (List NamedLine) ScriptFault) (lines : List NamedLine)
    (f : ScriptFault) → read ≡ Ok lines → read ≡ Err f → ⊥
good_script read lines f good bad =
    subst IsGood (sym good ∙ bad) tt

script_reading : (read : Result (List NamedLine) ScriptFault) (lines : List NamedLine)
    (s : ScriptEnd) → ScriptFails s read → read ≡ Ok lines → EndsReading (end.Script s)
script_reading read lines (script.BadLine line) is good = absurd (good_script read lines _ good is)
script_reading read lines script.TooLong is good = absurd (good_script read lines _ good is)
script_reading read lines (script.ShortLiteral line) is good =
    absurd (good_script read lines _ good is)
script_reading read lines script.NoMemory is good = tt

-- a good script is refused by none
pub reads_well : (read : Result (List NamedLine) ScriptFault) (lines : List NamedLine) (e : End)
    → ScriptEnds e read → read ≡ Ok lines → EndsReading e
reads_well read lines (end.Answered mark groups loaded) is good = is
reads_well read lines (end.Rebuilt kept skipped) is good = is
reads_well read lines end.Usage is good = is
reads_well read lines (end.Unopened f) is good = is
reads_well read lines end.NoMemory is good = tt
reads_well read lines (end.Script s) is good = script_reading read lines s is good
reads_well read lines (end.Source faults) is good = tt
reads_well read lines end.Sink is good = is

script_refused : (read : Result (List NamedLine) ScriptFault) (f : ScriptFault) (s : ScriptEnd)
    → ScriptFails s read → read ≡ Err f → ScriptFails {Y = List NamedLine} s (Err f)
script_refused read f s is bad =
    subst (λ (r : Result (List NamedLine) ScriptFault). ScriptFails s r) bad is

-- a bad one is
pub reads_refused : (read : Result (List NamedLine) ScriptFault) (f : ScriptFault) (e : End)
    → ScriptEnds e read → read ≡ Err f → EndsRefused f e
reads_refused read f (end.Answered mark groups loaded) is bad = is
reads_refused read f (end.Rebuilt kept skipped) is bad = is
reads_refused read f end.Usage is bad = is
reads_refused read f (end.Unopened g) is bad = is
reads_refused read f end.NoMemory is bad = tt
reads_refused read f (end.Script s) is bad = script_refused read f s is bad
reads_refused read f (end.Source faults) is bad = tt
reads_refused read f end.Sink is bad = is

-- lines that were read are those of a good script
pub not_refused : (read : Result (List NamedLine) ScriptFault) (lines : List NamedLine)
    (f : ScriptFault) → read ≡ Ok lines → read ≡ Err f → ⊥
not_refused read lines f good bad = good_script read lines f good bad

-- ---- which task they are of

-- a run over a folder ends so, with replies to a script or with none
pub folder_ends : (t : Option Task) (shelf shelf_now out out_now : ℕ) (e : End) → Opens t
    → IsSome t → (Rose out out_now → HasAnswers t)
    → FolderCause shelf shelf_now out out_now e → EndsBy t e
folder_ends t shelf shelf_now out out_now (end.Answered mark groups loaded) opens some sink cause = opens
folder_ends t shelf shelf_now out out_now (end.Rebuilt kept skipped) opens some sink cause = absurd cause
folder_ends t shelf shelf_now out out_now end.Usage opens some sink cause = absurd cause
folder_ends t shelf shelf_now out out_now (end.Unopened f) opens some sink cause = (some, λ is. opens)
folder_ends t shelf shelf_now out out_now end.NoMemory opens some sink cause = tt
folder_ends t shelf shelf_now out out_now (end.Script s) opens some sink cause = absurd cause
folder_ends t shelf shelf_now out out_now (end.Source faults) opens some sink cause = absurd cause
folder_ends t shelf shelf_now out out_now end.Sink opens some sink cause = sink cause

-- a script that isn't served is that of a task which reads one
pub read_ends : (t : Option Task) (before now : ℕ) (e : End) → HasScript t → IsReadEnd e before now → EndsBy t e
read_ends t before now (end.Answered mark groups loaded) has is = absurd is
read_ends t before now (end.Rebuilt kept skipped) has is = absurd is
read_ends t before now end.Usage has is = absurd is
read_ends t before now (end.Unopened f) has is = absurd is
read_ends t before now end.NoMemory has is = tt
read_ends t before now (end.Script s) has is = has
read_ends t before now (end.Source faults) has is = has
read_ends t before now end.Sink has is = absurd is

-- ---- the task that reads a script

pub script_opens : (by : Reader) → Opens (Some (script_task by))
script_opens (reader.Sessions None) = tt
script_opens (reader.Sessions (Some key)) = tt
script_opens reader.Storage = tt

pub script_answers : (by : Reader) → HasAnswers (Some (script_task by))
script_answers (reader.Sessions None) = tt
script_answers (reader.Sessions (Some key)) = tt
script_answers reader.Storage = tt

pub script_reads : (by : Reader) → HasScript (Some (script_task by))
script_reads (reader.Sessions None) = tt
script_reads (reader.Sessions (Some key)) = tt
script_reads reader.Storage = tt
