-- A file in memory that is read.
use Rattle.std.specs.Prelude.{ℕ, List, drop}
use Rattle.dv_streams.specs.declared.mem_calls.MemInput.{MemInput}

-- what is still to be read
abbrev pub bytes_left : MemInput → List ℕ
bytes_left input = drop input.at input.bytes
