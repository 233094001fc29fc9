use Rattle.dv_formats.specs.Printing.{command_text}
use Rattle.dv_commands.proofs.CommandTexts.{command_again}
use Rattle.dv_commands.proofs.PrintedCommands.{command_printed}
use Rattle.dv_commands.proofs.law.printed_command_is_read.Goals as goal

pub returns : goal.returns
returns c = λ command b is. command_again command (command_text command) (command_printed command b is)
