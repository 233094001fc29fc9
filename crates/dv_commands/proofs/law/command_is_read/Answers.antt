use Rattle.dv_commands.proofs.CommandTexts.{command_again}
use Rattle.dv_commands.proofs.law.command_is_read.Goals as goal

pub returns : goal.returns
returns c = command_again
