use Rattle.dv_chain.specs.Rest.{Nothing}
use Rattle.dv_filing.proofs.Cleared.{cleared_quiet, cleared_settled}
use Rattle.dv_filing.proofs.clearing.clear.Goals as goal

pub returns-clause-quiet : goal.returns-clause-quiet
returns-clause-quiet g c = λ tells messages chain free stands.
    cleared_quiet g.S.Shelf.sees c.args.files.now c.args.shelf.now c.sweep.new.shelf c.sweep.result (c.sweep.ensures.leaves tells) messages chain free stands (c.sweep.ensures.quiet tells Nothing chain stands.rests)

pub returns-clause-settled : goal.returns-clause-settled
returns-clause-settled g c = λ tells.
    cleared_settled g.S.Shelf.sees c.args.files.now c.args.shelf.now c.sweep.new.shelf c.sweep.result (c.sweep.ensures.leaves tells) c.sweep.ensures.cause.rose
