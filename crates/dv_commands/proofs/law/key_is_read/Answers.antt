use Rattle.dv_commands.proofs.KeyTrees.{whole_key_again}
use Rattle.dv_commands.proofs.law.key_is_read.Goals as goal

pub returns : goal.returns
returns c = whole_key_again
