use Rattle.dv_chain.specs.Files.{good_file}
use Rattle.dv_chain.proofs.Joins.{then_applied}
use Rattle.dv_chain.proofs.joining.from_rotated.Goals as goal

pub returns-clause-given : goal.returns-clause-given
returns-clause-given c = λ spots others left has first there before.
    then_applied (good_file c.args.log.now spots) c.in_ok-live.live.mailbox c.apply_all.result _ (c.in_ok-live.ensures.given others left first there before) (c.apply_all.ensures.applied spots has)
