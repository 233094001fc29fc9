-- Which lines have a text, and when their printed text is within the limits of a script.
use Rattle.std.specs.Prelude.{ℕ, ◌^◌, ◌<◌, ◌≤◌, List, ◌∷◌, ◌++◌, length, codes, decimal}
use Rattle.std.specs.List.{AllByRecursion}
use Rattle.dv_model.specs.declared.types.Command.{Command}
use Rattle.dv_model.specs.declared.types.Command.TheVariants as command
use Rattle.dv_formats.specs.Printing.{command_text, flags_text, script_text}
use Rattle.dv_formats.specs.Scripts.{AreFlags, IsCommand, IsSession, NamedLine, line_limit, script_limit, session_limit, sessions_of}

-- a command that the grammar has a text of
abbrev pub HasText : Command → Type 0
HasText (command.Append flags keywords message) = (b : List ℕ) × AreFlags flags keywords b × (length message < 2 ^ 32)
HasText c = (b : List ℕ) × IsCommand c b

-- what is printed of a command up to its first line end
abbrev pub head_text : Command → List ℕ
head_text (command.Append flags keywords message) = codes "APPEND " ++ flags_text flags keywords ++ codes " {" ++ decimal (length message) ++ codes "}"
head_text c = command_text c

-- a line of a session's name and such a command, which isn't too long
pub record IsPrintable (line : NamedLine) : Type 0 where
  pub session : IsSession line.0
  pub command : HasText line.1
  pub short : length (line.0 ++ 32 ∷ head_text line.1) ≤ line_limit

-- lines whose printed text is a script's
pub record ArePrintable (lines : List NamedLine) : Type 0 where
  pub each : AllByRecursion IsPrintable lines
  pub sessions : length (sessions_of lines) ≤ session_limit
  pub size : length (script_text lines) ≤ script_limit
