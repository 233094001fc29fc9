use Rattle.std.proofs.Common.{◌∙◌, ap, sym}
use Rattle.std.specs.Prelude.{slice_get}
use Rattle.std.specs.Option.{option_and_then}
use Rattle.dv_mdbox.proofs.looking.row_of.Goals as goal

pub returns-in-Some : goal.returns-in-Some
returns-in-Some c = sym (ap (option_and_then (slice_get c.args.live.now.mailbox.rows)) (sym c.in-Some.ensures) ∙ c.row.ensures)

pub returns-in-None : goal.returns-in-None
returns-in-None c = sym (ap (option_and_then (slice_get c.args.live.now.mailbox.rows)) (sym c.in-None.ensures))
