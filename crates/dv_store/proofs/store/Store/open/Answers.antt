use Rattle.dv_store.proofs.Opened.{stands_opened}
use Rattle.dv_store.proofs.store.Store.open.Goals as goal

pub returns-in-Ok-clause-opens : goal.returns-in-Ok-clause-opens
returns-in-Ok-clause-opens g c = λ tells.
    rw c.fresh.ensures (record { found = c.in-Ok.ensures.found tells; chain = c.in-Ok.ensures.chain tells })

pub returns-in-Ok-clause-quiet : goal.returns-in-Ok-clause-quiet
returns-in-Ok-clause-quiet g c = λ tells settled.
    let S = g.S.Shelf in
    let done = c.in-Ok.ensures in
    rw c.fresh.ensures (record {
      since = done.quiet tells settled;
      settled = done.settled tells settled;
      rests = done.rests tells settled;
      stands = λ log named keeps. stands_opened S.sees log c.in-Ok.chain (S.sees.files c.args.shelf) c.open.new.shelf _ (done.files tells) (done.settled tells settled) (done.rests tells settled) named keeps;
    })

pub returns-in-Err-clause-opens : goal.returns-in-Err-clause-opens
returns-in-Err-clause-opens g c = λ tells. record { found = c.in-Err.ensures.found tells; chain = tt }

pub returns-in-Err-clause-quiet : goal.returns-in-Err-clause-quiet
returns-in-Err-clause-quiet g c = λ tells settled. record {
  since = c.in-Err.ensures.quiet tells settled;
  settled = c.in-Err.ensures.settled tells settled;
  rests = tt;
  stands = tt;
}
