use Rattle.dv_maps.proofs.Counting as counting
use Rattle.dv_maps.proofs.laws.counts_are.Goals as goal

pub returns : goal.returns
returns c = counting.counts_are
