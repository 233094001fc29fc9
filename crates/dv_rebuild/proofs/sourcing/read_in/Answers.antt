use Rattle.dv_rebuild.proofs.Sourced.{read_is}
use Rattle.dv_rebuild.proofs.sourcing.read_in.Goals as goal

pub returns : goal.returns
returns c = λ front scan file good.
    read_is c.args.log.now c.args.rotated.now c.args.index.now c.is_some.result c.is_some-2.result c.is_some-3.result front scan file good c.is_some.ensures c.is_some-2.ensures c.is_some-3.ensures
