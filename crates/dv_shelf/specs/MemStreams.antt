-- What a source and a sink in memory hold.
use Rattle.std.specs.Prelude.{ℕ, ◌-◌, List, length, drop}
use Rattle.dv_shelf.specs.declared.mem_streams.MemSource.{MemSource}
use Rattle.dv_shelf.specs.declared.mem_streams.MemSink.{MemSink}

-- what is still to be read
abbrev pub bytes_left : MemSource → List ℕ
bytes_left source = drop source.at source.bytes

-- how often the source's calls failed
abbrev pub source_faults : MemSource → ℕ
source_faults source = source.failures.faults

-- what the sink has taken
abbrev pub bytes_taken : MemSink → List ℕ
bytes_taken sink = sink.taken.items

-- how many bytes more the sink can take
abbrev pub room_left : MemSink → ℕ
room_left sink = sink.room - length sink.taken.items

-- how often the sink's calls failed
abbrev pub sink_faults : MemSink → ℕ
sink_faults sink = sink.failures.faults
