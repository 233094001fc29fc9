use Rattle.std.proofs.Common.{refl}
use Rattle.dv_mdbox.proofs.storage.Storage.open.Goals as goal

pub returns-in-Ok-clause-opens : goal.returns-in-Ok-clause-opens
returns-in-Ok-clause-opens g c = rw c.fresh.ensures (λ tells settled some. c.in-Ok.ensures.opens tells settled some)

pub returns-in-Ok-clause-makes : goal.returns-in-Ok-clause-makes
returns-in-Ok-clause-makes g c = rw c.fresh.ensures (λ tells settled new. c.in-Ok.ensures.makes tells settled new)

pub returns-in-Ok-clause-fresh : goal.returns-in-Ok-clause-fresh
returns-in-Ok-clause-fresh g c = rw c.fresh.ensures (record { is = refl; bounds = c.in-Ok.ensures.bounds })

pub returns-in-Ok-clause-either : goal.returns-in-Ok-clause-either
returns-in-Ok-clause-either g c = rw c.fresh.ensures (λ tells settled. c.in-Ok.ensures.either tells settled)

pub returns-in-Ok-clause-found : goal.returns-in-Ok-clause-found
returns-in-Ok-clause-found g c = rw c.fresh.ensures (λ tells. c.in-Ok.ensures.found tells)

pub returns-in-Ok-clause-clock : goal.returns-in-Ok-clause-clock
returns-in-Ok-clause-clock g c = rw c.fresh.ensures (λ reads. c.in-Ok.ensures.clock reads)

pub returns-in-Ok-clause-cause : goal.returns-in-Ok-clause-cause
returns-in-Ok-clause-cause g c = rw c.fresh.ensures c.in-Ok.ensures.cause

pub returns-in-Err-clause-opens : goal.returns-in-Err-clause-opens
returns-in-Err-clause-opens g c = λ tells settled some. c.in-Err.ensures.opens tells settled some

pub returns-in-Err-clause-makes : goal.returns-in-Err-clause-makes
returns-in-Err-clause-makes g c = λ tells settled new. c.in-Err.ensures.makes tells settled new
