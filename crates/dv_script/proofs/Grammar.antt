-- What is parsed is what the grammar gives.
use Rattle.std.proofs.Common.{◌≡◌, ℕ, List, Result, Ok, Err, subst}
use Rattle.dv_formats.specs.Scripts.{NamedLine}
use Rattle.dv_formats.specs.Parsing.{ScriptFault, parsed}
use Rattle.dv_grammar.proofs.ReadScripts.{HasLines, script_sound}
use Rattle.dv_script.specs.declared.types.Line.{Line}
use Rattle.dv_script.specs.declared.types.ScriptEnd.{ScriptEnd}
use Rattle.dv_script.specs.declared.types.ScriptEnd.TheVariants as script_end
use Rattle.dv_script.specs.declared.script_lines.Script.{Script}
use Rattle.dv_script.specs.Opened.{OpensAs, OpensOf}
use Rattle.dv_script.specs.Sources.{IsFault, IsOf, ScriptFails, ScriptGives}

fault_is : (script : List ℕ) (e : ScriptEnd) → ScriptFails e (parsed script) → IsFault e script
fault_is script (script_end.BadLine k) gives = subst (HasLines script) gives (script_sound script)
fault_is script script_end.TooLong gives = subst (HasLines script) gives (script_sound script)
fault_is script (script_end.ShortLiteral k) gives = subst (HasLines script) gives (script_sound script)
fault_is script script_end.NoMemory gives = tt

pub is_of : (script : List ℕ) (r : Result (List Line) ScriptEnd) → ScriptGives r (parsed script) → IsOf r script
is_of script (Ok lines) gives = subst (HasLines script) gives (script_sound script)
is_of script (Err e) gives = fault_is script e gives

pub opens_of : (script : List ℕ) (r : Result Script ScriptEnd) → OpensAs r (parsed script) → OpensOf r script
opens_of script (Ok opened) gives = subst (HasLines script) gives (script_sound script)
opens_of script (Err e) gives = fault_is script e gives

pub gives_so : (script : List ℕ) (r : Result (List Line) ScriptEnd) (read : Result (List NamedLine) ScriptFault) → ScriptGives r (parsed script) → parsed script ≡ read → ScriptGives r read
gives_so script r read gives same = subst (ScriptGives r) same gives

pub opens_so : (script : List ℕ) (r : Result Script ScriptEnd) (read : Result (List NamedLine) ScriptFault) → OpensAs r (parsed script) → parsed script ≡ read → OpensAs r read
opens_so script r read gives same = subst (OpensAs r) same gives
