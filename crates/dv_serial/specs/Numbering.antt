-- The sessions of the lines so far, each with the number of its commands, and the turn of a line.
use Rattle.std.specs.Prelude.{◌≡◌, ℕ, ◌+◌, List, [], ◌∷◌, bytes_eq, count_by, if◌then◌else◌, map}
use Rattle.dv_formats.specs.Scripts.{NamedLine, sessions_of}
use Rattle.dv_serving.specs.Scripts.{number_among}
use Rattle.dv_serial.specs.declared.numbers.Seen.{Seen}
use Rattle.dv_serial.specs.declared.numbers.Turn.{Turn}

-- the commands of the session of this name
abbrev pub commands_in : List Seen → List ℕ → ℕ
commands_in [] name = 0
commands_in (s ∷ seen) name = if bytes_eq name s.name then s.commands else commands_in seen name

-- these sessions gave these lines
pub record AreSeen (lines : List NamedLine) (seen : List Seen) : Type 0 where
  pub names : map (λ (s : Seen). s.name) seen ≡ sessions_of lines
  pub commands : (name : List ℕ) → commands_in seen name ≡ count_by (λ l. bytes_eq l.0 name) lines

-- a line's session, and which of that session's commands it is, behind these lines
abbrev pub turn_behind : List (List ℕ) → List NamedLine → NamedLine → Turn
turn_behind names before line = record {
  session = number_among names line.0;
  command = 1 + count_by (λ l. bytes_eq l.0 line.0) before;
}
