use Rattle.std.proofs.Common.{subst}
use Rattle.std.proofs.lemmas.List.{take_all}
use Rattle.std.proofs.lemmas.List.Elements.{All-more}
use Rattle.std.specs.Prelude.{All}
use Rattle.dv_model.specs.declared.types.Record.{Record}
use Rattle.dv_apply.specs.Preparing.{IsLight}
use Rattle.dv_apply.proofs.light.are_all_light.Goals as goal

pub loop-r-preserved : goal.loop-r-preserved
loop-r-preserved c =
    All-more (λ (r : Record). IsLight r.body) c.args.records.now c.loop-r.r-index c.r-item.result c.loop-r-test.true c.loop-r.invariant
    (subst (λ (r : Record). IsLight r.body) c.r-item.is (c.is_light.ensures c.if-not-is_light.false))

pub returns : goal.returns
returns c = λ e. subst (All (λ (r : Record). IsLight r.body)) (take_all c.loop-r.r-index c.args.records.now c.loop-r-test.false) c.loop-r.invariant
