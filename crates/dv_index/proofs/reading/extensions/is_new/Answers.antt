use Rattle.std.proofs.Common.{◌≢◌, All, List, arith, rules, subst}
use Rattle.std.proofs.lemmas.List.{take_all}
use Rattle.std.proofs.lemmas.List.Elements.{All-more}
use Rattle.dv_model.specs.declared.types.Extension.{Extension}
use Rattle.dv_index.proofs.reading.extensions.is_new.Goals as goal

pub loop-extension-preserved : goal.loop-extension-preserved
loop-extension-preserved c =
    let here : c.extension-item.result.name ≢ c.args.name.now = search rules in
    All-more (λ (e : Extension). e.name ≢ c.args.name.now) c.args.extensions.now c.loop-extension.extension-index c.extension-item.result c.loop-extension-test.true c.loop-extension.invariant
    (subst (λ (e : Extension). e.name ≢ c.args.name.now) c.extension-item.is here)

pub returns : goal.returns
returns c =
    let all : All (λ (e : Extension). e.name ≢ c.args.name.now) c.args.extensions.now =
    subst (λ (es : List Extension). All (λ (e : Extension). e.name ≢ c.args.name.now) es) (take_all c.loop-extension.extension-index c.args.extensions.now (omega arith)) c.loop-extension.invariant in
    (λ _. all, λ _. search rules)
