use Rattle.std.proofs.Common.{refl}
use Rattle.std.specs.Prelude.{Some}
use Rattle.dv_cli.specs.declared.words.Task.TheVariants as task
use Rattle.dv_cli.proofs.ClientRuns.{caught_cause, caught_faults, caught_takes}
use Rattle.dv_serving.proofs.Readings.{readings_give}
use Rattle.dv_cli.proofs.Reached.{folder_ends}
use Rattle.dv_cli.proofs.resyncing.run_resync.Goals as goal

pub returns-clause-answers : goal.returns-clause-answers
returns-clause-answers g c = λ tells settled is_true.
    readings_give (c.catch_client-end.ensures.catches tells settled is_true) (λ clock small told catches. record {
      how = c.catch_client-end.result.end;
      is = c.caught_end.ensures;
      catches = catches;
    })

pub returns-clause-found : goal.returns-clause-found
returns-clause-found g c = λ tells.
    rw c.caught_end.ensures (caught_faults (g.S.Shelf.sees.files c.args.shelf) c.catch_client-end.result.end (c.catch_client-end.ensures.found tells))

pub returns-clause-ends : goal.returns-clause-ends
returns-clause-ends g c =
    let cause = caught_cause _ _ _ _ c.catch_client-end.result.end c.catch_client-end.ensures.cause in
    rw c.caught_end.ensures (folder_ends (Some (task.Resync c.args.client.now)) _ _ _ _ _ tt refl (λ rose. tt) cause.cause)

pub returns-clause-cause : goal.returns-clause-cause
returns-clause-cause g c =
    rw c.caught_end.ensures (caught_cause _ _ _ _ c.catch_client-end.result.end c.catch_client-end.ensures.cause)

pub returns-clause-readings : goal.returns-clause-readings
returns-clause-readings g c = λ timed.
    rw c.caught_end.ensures (caught_takes (g.C.Clock.sees.upcoming c.args.clock) (g.C.Clock.sees.upcoming c.catch_client-end.result.clock) c.catch_client-end.result.end (c.catch_client-end.ensures.readings timed))
