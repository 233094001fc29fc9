-- The lines of a script of a POP3 session.
use Rattle.std.specs.Prelude.{ℕ, List, length, map, Option, Some, None, nat_lt, if◌then◌else◌}
use Rattle.dv_formats.specs.Scripts.{script_limit}
use Rattle.dv_maildrop.specs.declared.types.PopLine.{PopLine}
use Rattle.dv_maildrop.specs.Lines.{line_of}
use Rattle.dv_maildrop.specs.Messages.{lines_of}

-- the commands of a script's lines, which end in LF or CRLF
abbrev pub commands_of : List ℕ → List PopLine
commands_of script = map line_of (lines_of script)

-- none where the script has too many bytes, which is its only fault: of a line with any other there is a bad command
abbrev pub script_commands : List ℕ → Option (List PopLine)
script_commands script =
    if nat_lt script_limit (length script) then None else Some (commands_of script)
