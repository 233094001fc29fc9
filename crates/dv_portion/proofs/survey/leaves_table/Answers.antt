use Rattle.dv_portion.proofs.Surveying.{others_leave}
use Rattle.dv_portion.proofs.survey.leaves_table.Goals as goal

pub returns-in_default : goal.returns-in_default
returns-in_default c = λ e. others_leave c.args.extensions.now c.args.body.now c.in_default.not-ExtIntro c.in_default.not-ExtReset c.in_default.not-ExtHeaderUpdate
