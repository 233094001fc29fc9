use Rattle.std.proofs.Common.{ℕ, refl, ap, sym, ◌∙◌}
use Rattle.std.specs.Prelude.{fold}
use Rattle.dv_model.specs.declared.types.Body.TheVariants.{HeaderUpdate}
use Rattle.dv_model.specs.declared.types.Mailbox.{Mailbox}
use Rattle.dv_model.specs.Effects.{with_header_part, with_higher}
use Rattle.dv_apply.specs.States.{mailbox_of}
use Rattle.dv_apply.proofs.Becoming.{becomes}
use Rattle.dv_apply.proofs.Changing.{header_changed}
use Rattle.dv_apply.proofs.headers.update_numbers.Goals as goal

pub returns : goal.returns
returns c =
    let s = c.args.state.now in
    let m : Mailbox = mailbox_of s in
    let is = c.numbers_after-uid_validity.ensures.is (with_higher m) refl refl in
    let raised = ap (λ (n : ℕ). record m { uid_validity = c.numbers_after-uid_validity.result.0; next_uid = c.numbers_after-uid_validity.result.1; highest = n }) (sym c.higher-state.ensures) in
    becomes s (record s { uid_validity = c.numbers_after-uid_validity.result.0; next_uid = c.numbers_after-uid_validity.result.1; highest = c.higher-state.result }) (HeaderUpdate c.args.parts.now) (fold with_header_part (with_higher m) c.args.parts.now) c.requires c.numbers_after-uid_validity.ensures.range (header_changed m c.args.parts.now) (is ∙ raised) refl (record { blank = c.requires.spare.blank; blanks = c.requires.spare.blanks; room = c.requires.spare.room })
