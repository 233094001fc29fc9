use Rattle.dv_files.specs.Writing.{IsSweeping, Sweeps}
use Rattle.dv_writing.proofs.Beside.{rows_left, sweeps_some}
use Rattle.dv_writing.proofs.Quiet.{quiet_steps}
use Rattle.dv_writing.proofs.removals.clear.Goals as goal

pub returns-clause-quiet : goal.returns-clause-quiet
returns-clause-quiet g c = λ tells log stands.
    let S = g.S.Shelf in
    let chain = c.args.chain.now in
    let uids = c.args.uids.now in
    quiet_steps S.sees log chain c.args.shelf.now c.sweep.new.shelf (Sweeps uids c.sweep.result) (IsSweeping uids)
    (λ d f sweeps has. rows_left log chain d f has uids c.requires (sweeps_some uids c.sweep.result d f sweeps)) (λ d f some has. rows_left log chain d f has uids c.requires some)
    (c.sweep.ensures.leaves tells) stands
