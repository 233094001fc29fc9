use Rattle.dv_sets.proofs.PrintedFlags.{flags_printed}
use Rattle.dv_sets.proofs.law.written_flags_are_read.Goals as goal

pub returns : goal.returns
returns c = flags_printed
