use Rattle.dv_grammar.proofs.Commands.{append_sound, command_sound}
use Rattle.dv_grammar.proofs.read_command_is_of_the_grammar.Goals as goal

pub returns-clause-command : goal.returns-clause-command
returns-clause-command c = command_sound

pub returns-clause-append : goal.returns-clause-append
returns-clause-append c = append_sound
