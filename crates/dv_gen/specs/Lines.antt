-- Lines of a script as the program has them.
use Rattle.std.specs.Prelude.{ℕ, ◌+◌, ◌-◌, List, ◌++◌, map}
use Rattle.std.specs.List.{range_with_len}
use Rattle.dv_model.specs.declared.types.Command.TheVariants as command
use Rattle.dv_script.specs.declared.types.Line.{Line}
use Rattle.dv_formats.specs.Generators.{commands_from, session_name}
use Rattle.dv_formats.specs.Scripts.{NamedLine}

-- a session's name and its command, as a line
abbrev pub line_of : NamedLine → Line
line_of (session, command) = record { session = session; command = command }

-- the SELECT of the n-th session
abbrev pub selected : ℕ → NamedLine
selected n = (session_name n, command.Select)

-- what is left of a generated script behind so many SELECTs and commands
abbrev pub generated_from : ℕ → ℕ → ℕ → ℕ → ℕ → List NamedLine
generated_from sessions count selects commands state =
    map selected (range_with_len (1 + selects) (sessions - selects))
    ++ commands_from sessions commands (count - commands) state
