use Rattle.dv_mdbox_lines.specs.Scripts.{parsed}
use Rattle.dv_mdbox_lines.proofs.GoodScripts.{is_one, script_is}
use Rattle.dv_mdbox_lines.proofs.laws.each_text_has_one_meaning.Goals as goal

pub returns-clause-some : goal.returns-clause-some
returns-clause-some c = λ script. (parsed script, script_is script)

pub returns-clause-one : goal.returns-clause-one
returns-clause-one c = λ script read other. is_one read other script
