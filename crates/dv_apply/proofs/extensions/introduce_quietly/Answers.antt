use Rattle.std.proofs.Common.{◌≡◌, true, ap, sym, ◌∙◌, refl, arith, if◌then◌else◌}
use Rattle.dv_ext.proofs.Sizing.{behind_all, parts_stay}
use Rattle.dv_ext.specs.Sizes.{leave_parts, sizes_of}
use Rattle.dv_model.specs.declared.types.Body.TheVariants.{ExtIntro}
use Rattle.dv_model.specs.declared.types.Mailbox.{Mailbox}
use Rattle.dv_model.specs.Effects.{with_higher, with_intro}
use Rattle.std.proofs.Common.{fold}
use Rattle.dv_validity.proofs.Stamps.{higher_valid}
use Rattle.dv_apply.specs.States.{blank_parts, mailbox_of}
use Rattle.dv_apply.proofs.Becoming.{table_becomes}
use Rattle.dv_apply.proofs.Extending.{alike_itself}
use Rattle.dv_apply.proofs.extensions.introduce_quietly.Goals as goal

pub returns : goal.returns
returns c =
    let s = c.args.state.now in
    let m : Mailbox = mailbox_of s in
    let h : Mailbox = with_higher m in
    let intros = c.args.intros.now in
    let is = c.make_current.ensures.is h (higher_valid m c.requires.kept.valid) in
    let stay : leave_parts m.extensions intros ≡ true = parts_stay s.extensions c.make_current.new.extensions intros (sym (ap (λ (x : Mailbox). x.extensions) is) ∙ sym (behind_all h intros)) (ap sizes_of c.make_current.ensures.list) in
    table_becomes s (ExtIntro intros) c.make_current.new.extensions s.rows c.higher-state.result (fold with_intro h intros) c.requires.kept tt refl is
    (alike_itself s.rows.rows) (ap (λ (x : Mailbox). blank_parts x.extensions) is ∙ ap blank_parts c.make_current.ensures.list) c.higher-state.ensures (ap (λ b. if b then s.spare else 0) stay) (omega arith)
