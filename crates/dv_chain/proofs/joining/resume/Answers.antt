use Rattle.std.proofs.Common.{◌∙◌}
use Rattle.dv_chain.specs.Files.{good_file, snapshot_of}
use Rattle.dv_chain.proofs.Joins.{number_is, resumed}
use Rattle.dv_chain.proofs.joining.resume.Goals as goal

pub returns-clause-given : goal.returns-clause-given
returns-clause-given c = λ spots left has there before.
    let file = good_file c.args.file.now spots in
    resumed file c.args.index.mark.offset c.number_behind.result left (snapshot_of c.args.index) c.in_ok-live.live.mailbox c.apply_from.result c.in_ok-live.ensures.ok
    (c.number_behind.ensures.is ∙ number_is file left c.args.before before) (c.apply_from.ensures.applied spots left has there)
