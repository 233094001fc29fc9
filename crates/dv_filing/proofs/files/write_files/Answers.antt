use Rattle.std.proofs.Common.{Ok, Err, subst}
use Rattle.dv_filing.proofs.Filed.{none_written}
use Rattle.dv_filing.proofs.files.write_files.Goals as goal

pub returns-in-Nothing-clause-writes : goal.returns-in-Nothing-clause-writes
returns-in-Nothing-clause-writes g c = λ tells.
    rw c.in-Nothing.is (none_written g.S.Shelf.sees c.args.shelf.now (λ f left. g.met.S.Shelf.only_now c.args.shelf.now f tells left))
