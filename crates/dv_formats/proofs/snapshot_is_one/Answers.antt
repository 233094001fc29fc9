use Rattle.dv_formats.proofs.Wholes as wholes
use Rattle.dv_formats.proofs.snapshot_is_one.Goals as goal

pub returns : goal.returns
returns c = wholes.snapshot_is_one
