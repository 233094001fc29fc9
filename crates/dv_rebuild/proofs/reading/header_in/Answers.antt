use Rattle.dv_rebuild.proofs.Plans.{header_there}
use Rattle.dv_rebuild.proofs.reading.header_in.Goals as goal

pub returns-in-Some : goal.returns-in-Some
returns-in-Some c = rw c.in-Some.is (header_there c.as_slice.result.now c.in-Some.bytes c.read_header.result c.as_slice.ensures c.read_header.ensures.found c.read_header.ensures.none)
