use Rattle.std.proofs.Common.{◌≡◌, ◌++◌, [], ◌∷◌, List, rules, subst, sym}
use Rattle.dv_model.specs.declared.types.Mailbox.{Mailbox}
use Rattle.dv_model.specs.declared.types.Row.{Row}
use Rattle.dv_model.specs.Effects.{fresh_row, with_row}
use Rattle.dv_model.specs.Mailboxes.{IsValid}
use Rattle.dv_validity.proofs.Appends.{row_valid}
use Rattle.dv_apply.specs.States.{mailbox_of}
use Rattle.dv_apply.proofs.appends.add.Goals as goal

pub returns-clause-valid : goal.returns-clause-valid
returns-clause-valid c =
    let m : Mailbox = mailbox_of c.args.state.now in
    let rows : c.append.new.self.rows ≡ m.rows ++ fresh_row m c.args.row.now ∷ [] = search rules in
    subst (λ (rs : List Row). IsValid (record (with_row m c.args.row.now) { rows = rs })) (sym rows) (row_valid m c.args.row.now c.requires.valid c.requires.new c.requires.below)
