use Rattle.dv_notes.proofs.Writes.{writes_are_good}
use Rattle.dv_notes.proofs.laws.writes_are_good.Goals as goal

pub returns : goal.returns
returns c = writes_are_good
