use Rattle.std.proofs.Common.{◌∙◌, ◌++◌, ap}
use Rattle.dv_live.specs.Turning.{where_met}
use Rattle.dv_live.proofs.Turning.{added}
use Rattle.dv_live.proofs.merging.add_until.Goals as goal

pub returns-clause-step : goal.returns-clause-step
returns-clause-step c = λ later above.
    let parts = c.split_at_uid.ensures in
    let front = c.split_at_uid.result.0.now in
    let v = c.args.v in
    added c.args.made.now.items c.add_met.new.made.items front c.split_at_uid.result.1.now c.args.rest.now c.behind.result.now v later parts.parts parts.before parts.from
    (c.in_ok-add_met.ensures ∙ ap (λ us. us ++ where_met v) c.in_ok-extend_from_slice.ensures.items) c.behind.ensures.is above
