use Rattle.std.proofs.Common.{refl}
use Rattle.dv_cli.proofs.StorageRuns.{stored_cause, stored_faults, stored_takes}
use Rattle.dv_cli.proofs.storing.run_calls.Goals as goal

pub returns-clause-answers : goal.returns-clause-answers
returns-clause-answers g c = λ tells settled.
    let e = c.run_storage-end.ensures in
    rw c.stored_end.ensures (record {
      how = c.run_storage-end.result.end;
      is = refl;
      runs = λ start starts. e.runs tells settled start starts;
      unopened = e.unopened tells settled;
    })

pub returns-clause-found : goal.returns-clause-found
returns-clause-found g c = λ tells.
    rw c.stored_end.ensures (stored_faults (g.S.Shelf.sees.files c.args.shelf) c.run_storage-end.result.end (c.run_storage-end.ensures.found tells))

pub returns-clause-cause : goal.returns-clause-cause
returns-clause-cause g c =
    rw c.stored_end.ensures (stored_cause _ _ _ _ c.run_storage-end.ensures.later c.run_storage-end.result.end c.run_storage-end.ensures.cause)

pub returns-clause-readings : goal.returns-clause-readings
returns-clause-readings g c = λ timed.
    rw c.stored_end.ensures (stored_takes _ _ c.run_storage-end.result.end (c.run_storage-end.ensures.clock timed))
