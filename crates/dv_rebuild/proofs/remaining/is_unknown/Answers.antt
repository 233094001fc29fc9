use Rattle.std.proofs.Common.{◌∙◌, ap, is_some, not, sym}
use Rattle.dv_rebuild.proofs.Noted.{row_found, row_gone}
use Rattle.dv_rebuild.proofs.remaining.is_unknown.Goals as goal

pub returns-in-Some : goal.returns-in-Some
returns-in-Some c = sym (ap not (row_found c.args.live.now.mailbox c.args.uid _ (sym c.position.ensures ∙ c.in-Some.is)))

pub returns-in-None : goal.returns-in-None
returns-in-None c = sym (ap (λ r. not (is_some r)) (row_gone c.args.live.now.mailbox c.args.uid (sym c.position.ensures ∙ c.in-None.is)))
