use Rattle.std.proofs.Common.{All, List, arith, rules, subst}
use Rattle.std.proofs.lemmas.List.{take_all}
use Rattle.std.proofs.lemmas.List.Elements.{All-more}
use Rattle.dv_model.specs.declared.types.Extension.{Extension}
use Rattle.dv_index.specs.Reading.{IsAllowed}
use Rattle.dv_index.proofs.reading.extensions.are_allowed.Goals as goal

pub loop-extension-preserved : goal.loop-extension-preserved
loop-extension-preserved c =
    let here : IsAllowed c.extension-item.result = search rules in
    All-more IsAllowed c.args.extensions.now c.loop-extension.extension-index c.extension-item.result c.loop-extension-test.true c.loop-extension.invariant (subst IsAllowed c.extension-item.is here)

pub returns : goal.returns
returns c =
    let all : All IsAllowed c.args.extensions.now = subst (λ (es : List Extension). All IsAllowed es) (take_all c.loop-extension.extension-index c.args.extensions.now (omega arith)) c.loop-extension.invariant in
    (λ _. all, λ _. search rules)
