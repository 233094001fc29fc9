use Rattle.std.proofs.Common.{◌++◌}
use Rattle.std.specs.Prelude.{codes, decimal}
use Rattle.std.proofs.lemmas.Result.{IfOk-weaker}
use Rattle.dv_model.specs.Texts.{mark_text}
use Rattle.dv_script.proofs.SpacedLemmas.{pieces}
use Rattle.dv_script.proofs.reply.put_damaged.Goals as goal

pub returns-clause-ok : goal.returns-clause-ok
returns-clause-ok c = IfOk-weaker c.put_mark.result _ _ (λ done last. pieces _ _ _ (codes "NO [CORRUPTION] UID " ++ decimal c.args.uid ++ codes " ") (mark_text c.args.mark) c.in_ok-put_around.ensures.ok last) c.put_mark.ensures.ok
