use Rattle.std.proofs.Common.{arith}
use Rattle.dv_files.proofs.Holding.{text_is}
use Rattle.dv_files.proofs.writing.mail_text.Goals as goal

pub returns-clause-is : goal.returns-clause-is
returns-clause-is c = text_is c.args.now c.args.guid.now c.args.message.now c.write.result c.told-guid c.fits-guid c.ranges.now.fits (omega arith) c.write.ensures
