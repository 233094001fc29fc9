-- How a run ends behind its lines.
use Rattle.std.specs.Prelude.{ℕ, length, Option, option_map, Result, Ok, Err}
use Rattle.dv_model.specs.declared.types.Mailbox.{Mailbox}
use Rattle.dv_model.specs.declared.types.Mark.{Mark}
use Rattle.dv_serial.specs.declared.lines.LineEnd.{LineEnd}
use Rattle.dv_serial.specs.declared.lines.LineEnd.TheVariants as line_end
use Rattle.dv_cli.specs.declared.words.Load.{Load}
use Rattle.dv_cli.specs.declared.ending.End.{End}
use Rattle.dv_cli.specs.declared.ending.End.TheVariants as end
use Rattle.dv_cli.specs.declared.ending.Loaded.{Loaded}

-- what is told of a generated load, with the mailbox behind it
abbrev pub loaded_in : Mailbox → Load → Loaded
loaded_in m load = record { load = load; exists = length m.rows; next_uid = m.next_uid }

abbrev pub loaded_by : Option Load → Mailbox → Option Loaded
loaded_by load m = option_map (loaded_in m) load

-- with the place, the number of groups and the load where all lines were answered
abbrev pub end_behind : Result (Unit {0}) LineEnd → Mark → ℕ → Option Loaded → End
end_behind (Ok done) mark groups loaded = end.Answered mark groups loaded
end_behind (Err line_end.NoMemory) mark groups loaded = end.NoMemory
end_behind (Err (line_end.Sink faults)) mark groups loaded = end.Sink
