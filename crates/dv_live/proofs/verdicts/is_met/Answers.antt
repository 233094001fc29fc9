use Rattle.dv_live.proofs.Found.{no_star, reads_none}
use Rattle.dv_live.proofs.verdicts.is_met.Goals as goal

pub returns : goal.returns
returns c = λ key ready steady_key. c.is_met_by.ensures key ready (reads_none key steady_key) (no_star key steady_key) 0
