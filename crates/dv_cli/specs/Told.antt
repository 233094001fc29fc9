-- What a run tells beside its output.
use Rattle.std.specs.Prelude.{◌≡◌, ◌⊎◌, ℕ, List, Option, Some, ⊤}
use Rattle.dv_formats.specs.Parsing.{ScriptFault}
use Rattle.dv_notices.specs.Lines.{told_line}
use Rattle.dv_notices.specs.declared.telling.Told.{Told}
use Rattle.dv_notices.specs.declared.telling.Told.TheVariants as told
use Rattle.dv_script.specs.declared.types.ScriptEnd.TheVariants as script
use Rattle.dv_cli.specs.declared.ending.End.{End}
use Rattle.dv_cli.specs.declared.ending.End.TheVariants as end
use Rattle.dv_cli.specs.Tasks.{HasScript}
use Rattle.dv_cli.specs.declared.words.Task.{Task}
use Rattle.dv_cli.specs.declared.words.Task.TheVariants as task

-- the line of this number in a script is told, or nothing where memory lacks
abbrev pub TellsLine : ℕ → List ℕ → Told → Type 0
TellsLine number text told.Nothing = ⊤
TellsLine number text (told.BadLine line) = line ≡ told_line number text
TellsLine number text (told.Rebuilt rebuilt) = ⊥

-- what is told of a script that is refused: its first bad line
abbrev pub TellsFault : ScriptFault → List ℕ → Told → Type 0
TellsFault (ScriptFault.BadLine number) text said = TellsLine number text said
TellsFault (ScriptFault.ShortLiteral number) text said = TellsLine number text said
TellsFault ScriptFault.TooLong text said = said ≡ told.Nothing

-- the same by the run's end: nothing is told of another
abbrev pub TellsEnd : List ℕ → End → Told → Type 0
TellsEnd text (end.Script (script.BadLine number)) said = TellsLine number text said
TellsEnd text (end.Script (script.ShortLiteral number)) said = TellsLine number text said
TellsEnd text e said = said ≡ told.Nothing

-- a bad line is told only where a script is refused, and what a rebuild found only behind it
abbrev pub IsToldAt : End → Told → Type 0
IsToldAt e told.Nothing = ⊤
IsToldAt (end.Script fault) (told.BadLine line) = ⊤
IsToldAt (end.Rebuilt kept skipped) (told.Rebuilt rebuilt) = ⊤
IsToldAt e said = ⊥

-- the same by the task and the status
abbrev pub IsToldBy : Option Task → ℕ → Told → Type 0
IsToldBy t status told.Nothing = ⊤
IsToldBy t status (told.BadLine line) =
    HasScript t × ((status ≡ 4) ⊎ (status ≡ 5) ⊎ (status ≡ 7))
IsToldBy t status (told.Rebuilt rebuilt) =
    (t ≡ Some task.Rebuild) × ((status ≡ 0) ⊎ (status ≡ 4) ⊎ (status ≡ 7))
