use Rattle.std.proofs.lemmas.Result.{IfOk-weaker}
use Rattle.dv_script.proofs.SpacedLemmas.{more_words}
use Rattle.dv_script.proofs.value.put_system_flags.Goals as goal

pub returns-clause-ok : goal.returns-clause-ok
returns-clause-ok c =
    let four = more_words (more_words (more_words c.in_ok-first.ensures.ok c.in_ok-first-2.ensures.ok) c.in_ok-first-3.ensures.ok) c.in_ok-first-4.ensures.ok in
    IfOk-weaker c.put_flag-5.result _ _ (λ next last. more_words four last) c.put_flag-5.ensures.ok
