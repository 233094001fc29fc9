-- A storage's lines as the program has them.
use Rattle.std.specs.Prelude.{◌≡◌, ℕ, List, [], ◌∷◌, Option, Some, None, Result, Ok, Err}
use Rattle.dv_formats.specs.Parsing.{LineFault, ScriptFault}
use Rattle.dv_script.specs.declared.types.ScriptEnd.{ScriptEnd}
use Rattle.dv_script.specs.declared.types.ScriptEnd.TheVariants as end
use Rattle.dv_script.specs.Sources.{ScriptFails}
use Rattle.dv_mdbox_lines.specs.Grammar.{IsFault, IsScript}
use Rattle.dv_mdbox_lines.specs.Scripts.{Call, Copy, Drop, Get, Purge, Save, calls_in}
use Rattle.dv_mdbox_lines.specs.declared.lines.Call as declared
use Rattle.dv_mdbox_lines.specs.declared.lines.Call.TheVariants as call
use Rattle.dv_mdbox_lines.specs.declared.reading.LineFault as fault_type
use Rattle.dv_mdbox_lines.specs.declared.reading.LineFault.TheVariants as fault
use Rattle.dv_mdbox_lines.specs.declared.cursor.Calls.{Calls}

-- the call that a value is
abbrev pub said : declared.Call → Call
said (call.Save message) = Save message.now
said (call.Copy id) = Copy id
said (call.Drop id) = Drop id
said (call.Get id) = Get id
said call.Purge = Purge

-- why a line has no call
abbrev pub fault_of : fault_type.LineFault → LineFault
fault_of fault.Bad = LineFault.bad
fault_of fault.Short = LineFault.short

-- a fault of the line of this number
abbrev pub end_of : ℕ → fault_type.LineFault → ScriptEnd
end_of k fault.Bad = end.BadLine k
end_of k fault.Short = end.ShortLiteral k

-- the calls that are still to be given
abbrev pub calls_left : Calls → List Call
calls_left calls = calls_in calls.rest.now

-- what was given of the calls that were left is the first one, and the others are left; none is
-- given where none is left
abbrev pub IsNext : List Call → Option declared.Call → List Call → Type 0
IsNext old None new = (old ≡ []) × (new ≡ [])
IsNext old (Some call) new = old ≡ said call ∷ new

-- all calls of the script are left, or its first fault is this one
abbrev pub OpensAs : Result Calls ScriptEnd → Result (List Call) ScriptFault → Type 0
OpensAs (Ok calls) read = read ≡ Ok (calls_left calls)
OpensAs (Err e) read = ScriptFails e read

-- by the grammar the calls left are the script's, or this is its first fault; memory never runs out
abbrev pub IsOpened : Result Calls ScriptEnd → List ℕ → Type 0
IsOpened (Ok calls) script = IsScript (calls_left calls) script
IsOpened (Err (end.BadLine k)) script = IsFault (ScriptFault.BadLine k) script
IsOpened (Err (end.ShortLiteral k)) script = IsFault (ScriptFault.ShortLiteral k) script
IsOpened (Err end.TooLong) script = IsFault ScriptFault.TooLong script
IsOpened (Err end.NoMemory) script = ⊥

-- all these calls are left, or this fault is told
abbrev pub IsTold : Result (List Call) ScriptFault → Result Calls ScriptEnd → Type 0
IsTold read (Ok calls) = read ≡ Ok (calls_left calls)
IsTold read (Err (end.BadLine k)) = read ≡ Err (ScriptFault.BadLine k)
IsTold read (Err (end.ShortLiteral k)) = read ≡ Err (ScriptFault.ShortLiteral k)
IsTold read (Err end.TooLong) = read ≡ Err ScriptFault.TooLong
IsTold read (Err end.NoMemory) = ⊥
