use Rattle.std.proofs.Common.{refl, arith}
use Rattle.dv_model.specs.declared.types.Body.TheVariants.{ExtHeaderUpdate}
use Rattle.dv_model.specs.declared.types.Mailbox.{Mailbox}
use Rattle.dv_model.specs.Effects.{on_current, with_header_parts, with_higher}
use Rattle.dv_validity.proofs.Stamps.{higher_valid}
use Rattle.dv_apply.specs.States.{mailbox_of}
use Rattle.dv_apply.proofs.Becoming.{table_becomes}
use Rattle.dv_apply.proofs.Extending.{alike_itself, header_sizes}
use Rattle.dv_apply.proofs.extensions.update_header.Goals as goal

pub returns : goal.returns
returns c =
    let s = c.args.state.now in
    let m : Mailbox = mailbox_of s in
    let h : Mailbox = with_higher m in
    let parts = c.args.parts.now in
    table_becomes s (ExtHeaderUpdate parts) c.header.new.self s.rows c.higher-state.result (on_current h (with_header_parts parts h)) c.requires tt refl (c.header.ensures.does h (higher_valid m c.requires.valid))
    (alike_itself s.rows.rows) (header_sizes h parts) c.higher-state.ensures refl (omega arith)
