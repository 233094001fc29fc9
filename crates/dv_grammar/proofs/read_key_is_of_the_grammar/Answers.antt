use Rattle.dv_grammar.proofs.Keys.{whole_key_sound}
use Rattle.dv_grammar.proofs.read_key_is_of_the_grammar.Goals as goal

pub returns : goal.returns
returns c = whole_key_sound
