-- A script that was read, by who answers it.
use Rattle.std.proofs.Common.{◌≡◌, ◌⊎◌, inl, inr, ◌∙◌, ap, sym, subst, refl, ℕ, List, [], All, length, arith}
use Rattle.std.specs.Prelude.{Ok, Result}
use Rattle.dv_shelf.specs.Folders.{Folder}
use Rattle.dv_shelf.specs.Sees.{SeesFolder}
use Rattle.dv_formats.specs.Parsing.{ScriptFault}
use Rattle.dv_formats.specs.Scripts.{IsScript, NamedLine}
use Rattle.dv_mdbox_lines.specs.Scripts as storage
use Rattle.dv_mdbox_lines.specs.Scripts.{Call}
use Rattle.dv_mdbox_lines.specs.Views.{calls_left}
use Rattle.dv_script.specs.Opened.{lines_left}
use Rattle.dv_script.specs.Sources.{ScriptFails}
use Rattle.dv_script.specs.declared.types.ScriptEnd.{ScriptEnd}
use Rattle.dv_script.specs.declared.types.ScriptEnd.TheVariants as script
use Rattle.dv_serving.specs.Faults.{Faults}
use Rattle.dv_serving.specs.Outputs.{Output}
use Rattle.dv_serving.specs.Readings.{TakesUpTo}
use Rattle.dv_serving.specs.Servable.{IsServable}
use Rattle.dv_beginning.proofs.Readings.{takes_none}
use Rattle.dv_cli.specs.declared.beside.Beside.{Beside}
use Rattle.dv_cli.specs.declared.ending.End.{End}
use Rattle.dv_cli.specs.declared.scripts.Opened.{Opened}
use Rattle.dv_cli.specs.declared.scripts.Opened.TheVariants as opened
use Rattle.dv_cli.specs.declared.scripts.Reader.{Reader}
use Rattle.dv_cli.specs.declared.scripts.Reader.TheVariants as reader
use Rattle.dv_cli.specs.Beside.{MayStand, RunsWith, beside_of}
use Rattle.dv_cli.specs.Causes.{FolderCause, ScriptEnds, TakesByEnd, most_readings}
use Rattle.dv_cli.specs.Scripts.{AnswersOpened, AreAlike, AreServable, MayBegin, MayBeginBy, MayRead, MayServe, RunsScript, SaysOf, TakesForOpened, TakesForScript}
use Rattle.dv_cli.specs.Spans.{Times}
use Rattle.dv_cli.specs.Storing.{AnswersCalls}
use Rattle.dv_cli.specs.Tasks.{parsed_by, parsed_with, without_lines}
use Rattle.dv_cli.specs.Wholes.{IsUnread}
use Rattle.dv_cli.proofs.Parsed.{same_calls, same_lines}
use Rattle.dv_cli.proofs.Reached.{calls_take, folder_takes, reads_well}
use Rattle.dv_cli.proofs.Takes.{run_takes}

-- ---- what it says

-- texts that say the same say it to each
pub alike_by : (by : Reader) (one other : List ℕ) → AreAlike one other → parsed_by by one ≡ parsed_by by other
alike_by (reader.Sessions search) one other alike = alike.lines search
alike_by reader.Storage one other alike = ap without_lines alike.calls

-- one that was opened has no fault
pub opened_good : (by : Reader) (text : List ℕ) (o : Opened) → SaysOf by text o → (lines : List NamedLine) × (parsed_by by text ≡ Ok lines)
opened_good (reader.Sessions search) text (opened.Lines script beside) says = (lines_left script.lines, says.lines)
opened_good (reader.Sessions search) text (opened.Calls calls) says = absurd says
opened_good reader.Storage text (opened.Lines script beside) says = absurd says
opened_good reader.Storage text (opened.Calls calls) says = ([], ap without_lines says)

-- and can be served
pub may_serve : (by : Reader) (text : List ℕ) (o : Opened) → MayRead by → SaysOf by text o
    → ((lines : List NamedLine) (script : List ℕ) → IsScript lines script → All (λ (line : NamedLine). IsServable line.1) lines) → MayServe o
may_serve (reader.Sessions search) text (opened.Lines script beside) may says servable = record {
  stands = subst MayStand (sym says.stands) may;
  servable = servable (lines_left script.lines) text says.found;
  few = omega (arith, says.few, says.found.size);
  seats = says.sessions;
}
may_serve (reader.Sessions search) text (opened.Calls calls) may says servable = tt
may_serve reader.Storage text (opened.Lines script beside) may says servable = absurd says
may_serve reader.Storage text (opened.Calls calls) may says servable = tt

-- ---- what is answered

-- it begins from what its reader asks for
pub may_begin : (by : Reader) (text : List ℕ) (o : Opened) (folder : Folder) → SaysOf by text o → MayBeginBy by folder → MayBegin o folder
may_begin (reader.Sessions search) text (opened.Lines script beside) folder says may = may
may_begin (reader.Sessions search) text (opened.Calls calls) folder says may = tt
may_begin reader.Storage text (opened.Lines script beside) folder says may = absurd says
may_begin reader.Storage text (opened.Calls calls) folder says may = tt

module _ {S : Type 0} (sees : SeesFolder S) (times : Times) (faults : Faults) (e : End) (out : Output) (old new : S) where
  -- what was opened is answered
  pub opened_runs : (by : Reader) (text script : List ℕ) (o : Opened) → AreAlike text script → SaysOf by text o → AnswersOpened o sees times faults e out old new
      → RunsScript by script sees times faults e out old new
  opened_runs (reader.Sessions search) text script (opened.Lines s beside) alike says answers = λ lines good.
      inr (subst (λ (b : Beside). RunsWith b sees times faults lines e out old new) says.stands
      (subst (λ (ls : List NamedLine). RunsWith beside sees times faults ls e out old new)
      (same_lines (parsed_with search script) (lines_left s.lines) lines (sym (alike.lines search) ∙ says.lines) good) answers))
  opened_runs (reader.Sessions search) text script (opened.Calls calls) alike says answers = absurd says
  opened_runs reader.Storage text script (opened.Lines s beside) alike says answers = absurd says
  opened_runs reader.Storage text script (opened.Calls left) alike says answers = λ calls good.
      inr (subst (λ (cs : List Call). AnswersCalls sees faults cs e out old new)
      (same_calls (storage.parsed script) (calls_left left) calls (sym alike.calls ∙ says) good) answers)

  -- what couldn't be read isn't
  pub unread_runs : (by : Reader) (script : List ℕ) → ScriptEnds e (parsed_by by script) → out.taken_now ≡ out.taken → new ≡ old
      → RunsScript by script sees times faults e out old new
  unread_runs (reader.Sessions search) script ends none same = λ lines good.
      inl (reads_well (parsed_with search script) lines e ends good, none, same)
  unread_runs reader.Storage script ends none same = λ calls good.
      inl (reads_well (without_lines (storage.parsed script)) [] e ends (ap without_lines good), none, same)

-- ---- the clock

pub opened_takes : (shelf shelf_now out out_now : ℕ) (old new : ℕ → ℕ) (o : Opened) (e : End) → FolderCause shelf shelf_now out out_now e
    → TakesForOpened o old new e → TakesByEnd old new e
opened_takes shelf shelf_now out out_now old new (opened.Lines s beside) e cause takes =
    folder_takes shelf shelf_now out out_now (length (lines_left s.lines)) old new e cause takes
opened_takes shelf shelf_now out out_now old new (opened.Calls calls) e cause takes = calls_take shelf shelf_now out out_now old new e cause takes

pub script_takes : (by : Reader) (text script : List ℕ) (o : Opened) (old new : ℕ → ℕ) (e : End) → AreAlike text script → SaysOf by text o
    → TakesForOpened o old new e → TakesForScript by script old new
script_takes (reader.Sessions search) text script (opened.Lines s beside) old new e alike says takes = λ lines good.
    subst (λ (ls : List NamedLine). TakesUpTo (most_readings (length ls)) old new)
    (same_lines (parsed_with search script) (lines_left s.lines) lines (sym (alike.lines search) ∙ says.lines) good)
    (run_takes (length (lines_left s.lines)) old new e takes)
script_takes (reader.Sessions search) text script (opened.Calls calls) old new e alike says takes = absurd says
script_takes reader.Storage text script (opened.Lines s beside) old new e alike says takes = tt
script_takes reader.Storage text script (opened.Calls calls) old new e alike says takes = tt

-- one that isn't touched isn't read
pub none_takes : (by : Reader) (script : List ℕ) (old new : ℕ → ℕ) → new ≡ old → TakesForScript by script old new
none_takes (reader.Sessions search) script old new same = λ lines good. takes_none (most_readings (length lines)) old new same
none_takes reader.Storage script old new same = tt

-- ---- a storage's script that is refused

-- what fails has no lines either
pub fails_without : (e : ScriptEnd) (read : Result (List Call) ScriptFault) → ScriptFails e read → ScriptFails e (without_lines read)
fails_without (script.BadLine k) read fails = ap without_lines fails
fails_without script.TooLong read fails = ap without_lines fails
fails_without (script.ShortLiteral k) read fails = ap without_lines fails
fails_without script.NoMemory read fails = tt
