use Rattle.std.proofs.Common.{◌++◌}
use Rattle.std.specs.Prelude.{codes, decimal}
use Rattle.std.proofs.lemmas.Result.{IfOk-weaker}
use Rattle.dv_script.proofs.SpacedLemmas.{pieces}
use Rattle.dv_script.proofs.reply.put_given.Goals as goal

pub returns-clause-ok : goal.returns-clause-ok
returns-clause-ok c =
    let before = codes "[APPENDUID " ++ decimal c.in-Some.validity ++ codes " " in
    let front = pieces _ _ _ before (decimal c.in-Some.uid) c.in_ok-put_around.ensures.ok c.in_ok-put_number.ensures.ok in
    rw c.in-Some.is (IfOk-weaker c.put.result _ _ (λ done last. pieces _ _ _ (before ++ decimal c.in-Some.uid) (codes "] ") front last) c.put.ensures.ok)
