-- A script beside whose sessions others stand: its lines name so many fewer at most.
use Rattle.std.specs.Prelude.{◌≤◌, ℕ, List, [], ◌∷◌, length, nat_lt, Result, Err, if◌then◌else◌}
use Rattle.dv_formats.specs.Scripts.{NamedLine, script_limit}
use Rattle.dv_formats.specs.Parsing.{ScriptFault, lines_at}

-- the commands of a script, or its first fault, where these names are taken from the start
abbrev pub parsed_among : List (List ℕ) → List ℕ → Result (List NamedLine) ScriptFault
parsed_among names script =
    if nat_lt script_limit (length script) then Err ScriptFault.TooLong
    else lines_at (length script) 1 [] names script

-- one session that no line names, since a line's session has a byte
abbrev pub unnamed : List (List ℕ)
unnamed = [] ∷ []

-- as a line's session has
abbrev pub HasName : NamedLine → Type 0
HasName line = 1 ≤ length line.0

-- so it is beside that session
abbrev pub parsed_beside : List ℕ → Result (List NamedLine) ScriptFault
parsed_beside script = parsed_among unnamed script
