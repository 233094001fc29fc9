use Rattle.dv_store.proofs.Causes.{disk_cause}
use Rattle.dv_store.proofs.Committing.{stored_done, stored_failed}
use Rattle.dv_store.proofs.Receipts.{carried_done, carried_failed}
use Rattle.dv_store.proofs.commits.write_plan.Goals as goal

pub returns-in-Ok-clause-value : goal.returns-in-Ok-clause-value
returns-in-Ok-clause-value g c = carried_done c.in-Ok.committed c.in-Ok.ensures.value

pub returns-in-Ok-clause-gives : goal.returns-in-Ok-clause-gives
returns-in-Ok-clause-gives g c = λ tells log debt write fits stands is.
    stored_done c.in-Ok.committed _ (c.in-Ok.ensures.gives tells log debt write fits stands is)

pub returns-in-Err-clause-value : goal.returns-in-Err-clause-value
returns-in-Err-clause-value g c = carried_failed c.in-Err.field-0 c.disk.result c.in-Err.ensures.value

pub returns-in-Err-clause-gives : goal.returns-in-Err-clause-gives
returns-in-Err-clause-gives g c = λ tells log debt write fits stands is.
    stored_failed c.in-Err.field-0 c.disk.result (c.in-Err.ensures.gives tells log debt write fits stands is)

pub returns-in-Err-clause-cause : goal.returns-in-Err-clause-cause
returns-in-Err-clause-cause g c = disk_cause _ _ c.in-Err.field-0 c.disk.result c.disk.ensures c.in-Err.ensures.cause
