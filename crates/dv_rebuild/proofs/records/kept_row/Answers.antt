use Rattle.std.proofs.Common.{◌∙◌, sym}
use Rattle.dv_rebuild.proofs.Noted.{none_kept, row_kept}
use Rattle.dv_rebuild.proofs.records.kept_row.Goals as goal

pub returns-in-Some : goal.returns-in-Some
returns-in-Some c = row_kept c.args.live.now.mailbox c.args.uid c.in-Some.at c.row.result.now (sym c.position.ensures ∙ c.in-Some.is) c.row.ensures

pub returns-in-None : goal.returns-in-None
returns-in-None c = none_kept c.args.live.now.mailbox c.args.uid (sym c.position.ensures ∙ c.in-None.is)
