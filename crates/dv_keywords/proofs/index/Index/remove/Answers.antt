use Rattle.std.proofs.Common.{None}
use Rattle.dv_keywords.proofs.Finding.{updated}
use Rattle.dv_keywords.proofs.index.Index.remove.Goals as goal

pub returns : goal.returns
returns c = updated c.args.name.now c.args.self.now.map c.remove.new.self None c.remove.ensures.updates
