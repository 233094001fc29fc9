use Rattle.std.proofs.Common.{arith, refl}
use Rattle.dv_model.specs.declared.types.Body.TheVariants.{Expunge}
use Rattle.dv_apply.specs.States.{mailbox_of}
use Rattle.dv_apply.proofs.Becoming.{rows_become}
use Rattle.dv_apply.proofs.Changing.{expunged}
use Rattle.dv_apply.proofs.changes.expunge.Goals as goal

pub returns : goal.returns
returns c =
    let s = c.args.state.now in
    rows_become s (Expunge c.args.pairs.now) _ c.expunge.new.rows c.higher-state.result c.requires tt (expunged (mailbox_of s) c.args.pairs.now) c.expunge.ensures.rows c.higher-state.ensures refl (omega (arith, c.expunge.ensures.room))
