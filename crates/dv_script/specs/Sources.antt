-- Lines and faults of a script as the program has them.
use Rattle.std.specs.Prelude.{◌≡◌, ℕ, List, [], ◌∷◌, map, Option, Some, None, Result, Ok, Err}
use Rattle.dv_formats.specs.Scripts.{IsBadLine, IsScript, IsShortLiteral, IsTooLong, NamedLine}
use Rattle.dv_formats.specs.Parsing.{LineFault, ScriptFault}
use Rattle.dv_script.specs.declared.types.Line.{Line}
use Rattle.dv_script.specs.declared.types.ScriptEnd.{ScriptEnd}
use Rattle.dv_script.specs.declared.types.ScriptEnd.TheVariants as script_end
use Rattle.dv_script.specs.declared.script.LineEnd.{LineEnd}
use Rattle.dv_script.specs.declared.script.LineEnd.TheVariants as line_end

-- a line's session and command
abbrev pub named : Line → NamedLine
named line = (line.session, line.command)

-- the same of all
abbrev pub all_named : List Line → List NamedLine
all_named lines = map named lines

-- a line ends so, unless memory ran out
abbrev pub LineFails : {Y : Type 0} → LineEnd → Result Y LineFault → Type 0
LineFails line_end.Bad read = read ≡ Err LineFault.bad
LineFails line_end.Short read = read ≡ Err LineFault.short
LineFails line_end.NoMemory read = Unit {0}

-- what was read of a line, seen by this view, is what is read by definition, unless memory ran out
abbrev pub LineGives : {X Y : Type 0} → (X → Y) → Result X LineEnd → Result Y LineFault → Type 0
LineGives view (Ok x) read = read ≡ Ok (view x)
LineGives view (Err e) read = LineFails e read

-- a script's fault is this one, unless memory ran out
abbrev pub ScriptFails : {Y : Type 0} → ScriptEnd → Result Y ScriptFault → Type 0
ScriptFails (script_end.BadLine k) read = read ≡ Err (ScriptFault.BadLine k)
ScriptFails script_end.TooLong read = read ≡ Err ScriptFault.TooLong
ScriptFails (script_end.ShortLiteral k) read = read ≡ Err (ScriptFault.ShortLiteral k)
ScriptFails script_end.NoMemory read = Unit {0}

-- a script's lines are these, or its fault is this one, unless memory ran out
abbrev pub ScriptGives : Result (List Line) ScriptEnd → Result (List NamedLine) ScriptFault → Type 0
ScriptGives (Ok lines) read = read ≡ Ok (all_named lines)
ScriptGives (Err e) read = ScriptFails e read

-- by the grammar this is the script's first fault
abbrev pub IsFault : ScriptEnd → List ℕ → Type 0
IsFault (script_end.BadLine k) script = IsBadLine script k
IsFault script_end.TooLong script = IsTooLong script
IsFault (script_end.ShortLiteral k) script = IsShortLiteral script k
IsFault script_end.NoMemory script = Unit {0}

-- by the grammar these are the script's lines, or this is its first fault
abbrev pub IsOf : Result (List Line) ScriptEnd → List ℕ → Type 0
IsOf (Ok lines) script = IsScript (all_named lines) script
IsOf (Err e) script = IsFault e script

-- a line that may have a command
abbrev pub may_name : Option Line → Option NamedLine
may_name None = None
may_name (Some line) = Some (named line)

-- a line's fault, by the line's number
abbrev pub script_end_of : ℕ → LineEnd → ScriptEnd
script_end_of k line_end.Bad = script_end.BadLine k
script_end_of k line_end.Short = script_end.ShortLiteral k
script_end_of k line_end.NoMemory = script_end.NoMemory

-- what was given of the lines that were left is the first one, and the others are left; none is given
-- where none is left
abbrev pub IsNext : List NamedLine → Option Line → List NamedLine → Type 0
IsNext old None new = (old ≡ []) × (new ≡ [])
IsNext old (Some line) new = old ≡ named line ∷ new
