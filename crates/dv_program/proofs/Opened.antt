-- A script that was read, and is served by sessions in threads.
use Rattle.std.proofs.Common.{◌≡◌, ◌∙◌, inl, inr, sym, subst, List, ℕ}
use Rattle.std.specs.Prelude.{None, Ok}
use Rattle.dv_shelf.specs.Sees.{SeesFolder}
use Rattle.dv_formats.specs.Parsing.{parsed}
use Rattle.dv_formats.specs.Scripts.{NamedLine}
use Rattle.dv_script.specs.Sources.{ScriptFails}
use Rattle.dv_script.specs.declared.types.ScriptEnd.{ScriptEnd}
use Rattle.dv_serving.specs.Faults.{Faults}
use Rattle.dv_serving.specs.Outputs.{Output}
use Rattle.dv_cli.specs.Causes.{ScriptEnds}
use Rattle.dv_cli.specs.Scripts.{AreAlike}
use Rattle.dv_cli.specs.Spans.{Times}
use Rattle.dv_cli.specs.declared.ending.End.{End}
use Rattle.dv_cli.proofs.Parsed.{same_lines}
use Rattle.dv_cli.proofs.Reached.{reads_well}
use Rattle.dv_program.specs.Serving.{RunsBy, RunsThreads}

-- a text that fails is that of a script which does
pub fails_alike : (text script : List ℕ) (s : ScriptEnd) → AreAlike text script → ScriptFails s (parsed text) → ScriptFails s (parsed script)
fails_alike text script s alike fails = subst (ScriptFails s) (alike.lines None) fails

module _ {S : Type 0} (sees : SeesFolder S) (times : Times) (faults : Faults) (e : End) (out : Output) (old new : S) where
  -- the lines that were read are the script's
  pub good_runs : (text script : List ℕ) (read lines : List NamedLine) → AreAlike text script → parsed text ≡ Ok read → parsed script ≡ Ok lines
      → RunsBy sees times faults read e out old new → RunsThreads sees times faults lines e out old new
  good_runs text script read lines alike says good runs =
      inr (subst (λ (ls : List NamedLine). RunsBy sees times faults ls e out old new) (same_lines (parsed script) read lines (sym (alike.lines None) ∙ says) good) runs)

  -- what couldn't be read isn't served
  pub unread_runs : (script : List ℕ) (lines : List NamedLine) → ScriptEnds e (parsed script) → parsed script ≡ Ok lines → out.taken_now ≡ out.taken → new ≡ old
      → RunsThreads sees times faults lines e out old new
  unread_runs script lines ends good none same = inl (reads_well (parsed script) lines e ends good, none, same)
