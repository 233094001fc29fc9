use Rattle.std.proofs.Common.{refl, arith}
use Rattle.dv_model.specs.declared.types.Body.TheVariants.{FlagUpdate}
use Rattle.dv_apply.specs.States.{mailbox_of}
use Rattle.dv_apply.proofs.Becoming.{rows_become}
use Rattle.dv_apply.proofs.Changing.{flags_changed}
use Rattle.dv_apply.proofs.changes.change_flags.Goals as goal

pub returns : goal.returns
returns c =
    let s = c.args.state.now in
    rows_become s (FlagUpdate c.args.changes.now) _ c.change_flags.new.rows c.higher-state.result c.requires tt (flags_changed (mailbox_of s) c.args.changes.now c.higher-state.result c.requires.valid c.higher-state.ensures) c.change_flags.ensures.rows c.higher-state.ensures refl (omega (arith, c.change_flags.ensures.room))
