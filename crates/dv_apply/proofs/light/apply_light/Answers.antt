use Rattle.std.proofs.Common.{ap, sym, ◌∙◌, subst, arith}
use Rattle.std.proofs.lemmas.List.{take_all}
use Rattle.dv_model.specs.declared.types.Record.{Record}
use Rattle.dv_model.specs.Effects.{after_record, applied}
use Rattle.dv_model.specs.Spelling.{IsRecord}
use Rattle.dv_ext.proofs.Sizing.{sizes_test}
use Rattle.dv_apply.proofs.Applying.{applied_next}
use Rattle.dv_apply.proofs.Lightness.{light_at, record_sizes}
use Rattle.dv_apply.specs.Preparing.{IsLightFirst}
use Rattle.dv_apply.specs.States.{mailbox_of}
use Rattle.dv_apply.proofs.light.apply_light.Goals as goal

pub apply_one-requires-clause-record : goal.apply_one-requires-clause-record
apply_one-requires-clause-record c = subst IsRecord (sym c.r-item.is) (c.requires.records c.loop-r.r-index c.r-item.result c.loop-r-test.true)

pub apply_one-requires-clause-light : goal.apply_one-requires-clause-light
apply_one-requires-clause-light c =
    let now = c.loop-r.state.extensions.extensions in
    subst (λ (r : Record). IsLightFirst now r.body) (sym c.r-item.is)
    (light_at c.args.state.now.extensions.extensions now c.args.records.now c.loop-r.r-index c.r-item.result c.requires.light c.loop-r-test.true c.loop-r.invariant.first)

pub loop-r-preserved : goal.loop-r-preserved
loop-r-preserved c =
    let i = c.loop-r.r-index in
    let rs = c.args.records.now in
    let r = c.r-item.result in
    let before = mailbox_of c.loop-r.state in
    let now = c.loop-r.state.extensions.extensions in
    let light = subst (λ (x : Record). IsLightFirst now x.body) (sym c.r-item.is) (light_at c.args.state.now.extensions.extensions now rs i r c.requires.light c.loop-r-test.true c.loop-r.invariant.first) in
    record {
      is = applied_next (mailbox_of c.args.state.now) before (mailbox_of c.apply_one.new.state) rs i r c.loop-r-test.true c.loop-r.invariant.is (ap (after_record before) (sym c.r-item.is) ∙ c.apply_one.ensures.is);
      kept = c.apply_one.ensures.kept;
      spare = c.apply_one.ensures.spare ∙ c.loop-r.invariant.spare;
      sizes = record_sizes before (mailbox_of c.apply_one.new.state) r light c.apply_one.ensures.is ∙ c.loop-r.invariant.sizes;
      first = λ e. absurd (omega (arith, e));
    }

pub returns-clause-is : goal.returns-clause-is
returns-clause-is c = ap (applied (mailbox_of c.args.state.now)) (sym (take_all c.loop-r.r-index c.args.records.now c.loop-r-test.false)) ∙ c.loop-r.invariant.is

pub returns-clause-sizes : goal.returns-clause-sizes
returns-clause-sizes c = sizes_test c.args.state.now.extensions.extensions c.loop-r.state.extensions.extensions (sym c.loop-r.invariant.sizes)
