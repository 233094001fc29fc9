use Rattle.std.proofs.Common.{refl, arith}
use Rattle.dv_model.specs.declared.types.Body.TheVariants.{Carried}
use Rattle.dv_apply.specs.States.{mailbox_of}
use Rattle.dv_apply.proofs.Becoming.{rows_become}
use Rattle.dv_apply.proofs.Changing.{carried}
use Rattle.dv_apply.proofs.changes.carry.Goals as goal

pub returns : goal.returns
returns c =
    let s = c.args.state.now in
    rows_become s (Carried c.args.code c.args.bytes.now) s.rows.rows s.rows c.higher-state.result c.requires tt (carried (mailbox_of s) c.args.code c.args.bytes.now) refl c.higher-state.ensures refl (omega arith)
