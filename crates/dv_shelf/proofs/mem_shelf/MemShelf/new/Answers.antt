use Rattle.std.proofs.Common.{[]}
use Rattle.dv_shelf.proofs.StartLemmas.{put_only}
use Rattle.dv_shelf.proofs.mem_shelf.MemShelf.new.Goals as goal

pub returns-clause-settled : goal.returns-clause-settled
returns-clause-settled c = put_only _ [] c.in_ok-new.ensures.calls
