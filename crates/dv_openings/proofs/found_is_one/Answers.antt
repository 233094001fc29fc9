use Rattle.dv_openings.proofs.FoundOnce.{found_one}
use Rattle.dv_openings.proofs.found_is_one.Goals as goal

pub returns : goal.returns
returns c = found_one
