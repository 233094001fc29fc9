use Rattle.std.proofs.Common.{arith, refl}
use Rattle.dv_model.specs.declared.types.Body.TheVariants.{ExpungeGuid}
use Rattle.dv_apply.specs.States.{mailbox_of}
use Rattle.dv_apply.proofs.Becoming.{rows_become}
use Rattle.dv_apply.proofs.Changing.{expunged_named}
use Rattle.dv_apply.proofs.changes.expunge_named.Goals as goal

pub returns : goal.returns
returns c =
    let s = c.args.state.now in
    rows_become s (ExpungeGuid c.args.rows.now) _ c.expunge_named.new.self c.higher-state.result c.requires tt (expunged_named (mailbox_of s) c.args.rows.now) c.expunge_named.ensures.rows c.higher-state.ensures refl (omega (arith, c.expunge_named.ensures.room))
