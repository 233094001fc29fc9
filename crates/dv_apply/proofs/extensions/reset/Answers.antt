use Rattle.std.proofs.Common.{refl, ap, ◌∙◌, arith}
use Rattle.dv_model.specs.declared.types.Body.TheVariants.{ExtReset}
use Rattle.dv_model.specs.declared.types.Mailbox.{Mailbox}
use Rattle.dv_model.specs.Effects.{on_current, with_higher, with_reset}
use Rattle.dv_ext.specs.Tables.{Table, with_table}
use Rattle.dv_validity.proofs.Stamps.{higher_valid}
use Rattle.dv_apply.specs.States.{mailbox_of}
use Rattle.dv_apply.proofs.Becoming.{table_becomes}
use Rattle.dv_apply.proofs.Extending.{reset_sizes}
use Rattle.dv_apply.proofs.extensions.reset.Goals as goal

pub returns : goal.returns
returns c =
    let s = c.args.state.now in
    let m : Mailbox = mailbox_of s in
    let h : Mailbox = with_higher m in
    let after : Table = c.reset-change.new.self in
    let id = c.args.reset_id in
    let keep = c.args.preserve in
    table_becomes s (ExtReset id keep) after c.zero_parts.new.rows c.higher-state.result (on_current h (with_reset id keep h)) c.requires tt refl
    (c.reset-change.ensures.does h (higher_valid m c.requires.valid) ∙ ap (with_table after) (c.zero_parts.ensures.is h refl))
    c.zero_parts.ensures.alike (reset_sizes h id keep) c.higher-state.ensures refl (omega (arith, c.zero_parts.ensures.room))
