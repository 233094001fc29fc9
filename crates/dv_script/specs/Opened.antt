-- What an opened script gives.
use Rattle.std.specs.Prelude.{◌≡◌, ℕ, List, Result, Ok, Err}
use Rattle.dv_formats.specs.Scripts.{IsScript, NamedLine}
use Rattle.dv_formats.specs.Parsing.{ScriptFault}
use Rattle.dv_script.specs.declared.types.ScriptEnd.{ScriptEnd}
use Rattle.dv_script.specs.declared.script_lines.ScriptLines.{ScriptLines}
use Rattle.dv_script.specs.declared.script_lines.Script.{Script}
use Rattle.dv_script.specs.Rests.{left_from}
use Rattle.dv_script.specs.Sources.{IsFault, ScriptFails}

-- the lines that a cursor is still to give
abbrev pub lines_left : ScriptLines → List NamedLine
lines_left lines = left_from lines.names lines.rest.now

-- all lines of the script are left, or its fault is this one, unless memory ran out
abbrev pub OpensAs : Result Script ScriptEnd → Result (List NamedLine) ScriptFault → Type 0
OpensAs (Ok script) read = read ≡ Ok (lines_left script.lines)
OpensAs (Err e) read = ScriptFails e read

-- by the grammar the lines left are the script's, or this is its first fault
abbrev pub OpensOf : Result Script ScriptEnd → List ℕ → Type 0
OpensOf (Ok script) b = IsScript (lines_left script.lines) b
OpensOf (Err e) b = IsFault e b
