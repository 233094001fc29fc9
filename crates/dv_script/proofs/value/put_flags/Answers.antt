use Rattle.std.proofs.Common.{◌++◌}
use Rattle.std.specs.Prelude.{codes}
use Rattle.std.proofs.lemmas.Result.{IfOk-weaker}
use Rattle.dv_model.specs.Texts.{spaced, flag_words}
use Rattle.dv_script.proofs.SpacedLemmas.{pieces, more_words, all_words}
use Rattle.dv_script.proofs.value.put_flags.Goals as goal

pub returns-clause-ok : goal.returns-clause-ok
returns-clause-ok c =
    let words = flag_words c.args.flags ++ c.args.keywords.now in
    let written = all_words (more_words c.in_ok-first.ensures.ok c.in_ok-put_keywords.ensures.ok) in
    let front = pieces _ _ _ (codes " FLAGS (") (spaced words) c.in_ok-put.ensures.ok written in
    IfOk-weaker c.put-2.result _ _ (λ done last. pieces _ _ _ (codes " FLAGS (" ++ spaced words) (codes ")") front last) c.put-2.ensures.ok
