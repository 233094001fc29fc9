use Rattle.dv_formats.proofs.Faults.{fault_one}
use Rattle.dv_formats.proofs.Outcomes.{no_fault, some_outcome}
use Rattle.dv_formats.proofs.Passing.{snapshot_passes}
use Rattle.dv_formats.proofs.Wholes as wholes
use Rattle.dv_index.proofs.law.one_outcome.Goals as goal

pub returns-clause-snapshot : goal.returns-clause-snapshot
returns-clause-snapshot c = wholes.snapshot_is_one

pub returns-clause-fault : goal.returns-clause-fault
returns-clause-fault c = fault_one

pub returns-clause-apart : goal.returns-clause-apart
returns-clause-apart c = λ version m indexid mark b fault is. no_fault m b (snapshot_passes version m indexid mark b is) fault

pub returns-clause-either : goal.returns-clause-either
returns-clause-either c = some_outcome
