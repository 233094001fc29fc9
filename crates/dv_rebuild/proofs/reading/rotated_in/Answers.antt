use Rattle.dv_rebuild.proofs.Plans.{whole_bad, whole_some}
use Rattle.dv_rebuild.proofs.reading.rotated_in.Goals as goal

pub returns-in-Ok-clause-whole : goal.returns-in-Ok-clause-whole
returns-in-Ok-clause-whole c = rw c.in-Some.is (whole_some c.in-Some.bytes c.in-Ok.file c.in-Ok.ensures.read)

pub returns-in_default-clause-whole : goal.returns-in_default-clause-whole
returns-in_default-clause-whole c = rw c.in-Some.is (whole_bad c.in-Some.bytes c.in-Err.e c.in_default.not-NoMemory c.in-Err.ensures.read)
