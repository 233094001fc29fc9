-- The sessions of a script.
use Rattle.std.specs.Prelude.{◌-◌, ℕ, List, [], get_or, length}
use Rattle.dv_model.specs.declared.types.Command.{Command}
use Rattle.dv_model.specs.declared.types.Reply.{Reply}
use Rattle.dv_model.specs.Transcripts.{commands_of}
use Rattle.dv_formats.specs.Scripts.{NamedLine, sessions_of}
use Rattle.dv_serving.specs.Scripts.{numbered}

-- how many there are
abbrev pub session_count : List NamedLine → ℕ
session_count lines = length (sessions_of lines)

-- what the session of a number asks
abbrev pub asked : List NamedLine → ℕ → List Command
asked lines number = commands_of number (numbered lines)

-- the replies to the commands of the session of a number, from 1 on
abbrev pub told_to : List (List (List Reply)) → ℕ → List (List Reply)
told_to replies number = get_or replies (number - 1) []
