use Rattle.std.proofs.Common.{◌∙◌, sym}
use Rattle.std.specs.Prelude.{nat_lt}
use Rattle.dv_responses.proofs.Having.{none_passes, one_passes}
use Rattle.dv_responses.proofs.meeting.is_later.Goals as goal

pub returns-in-Some : goal.returns-in-Some
returns-in-Some c = sym (one_passes c.args.live.now.mailbox.rows c.args.uid (λ row. nat_lt c.args.since row.modseq) c.requires.rising c.in-Some.at c.row.result.now (sym c.position.ensures ∙ c.in-Some.is) c.row.ensures)

pub returns-in-None : goal.returns-in-None
returns-in-None c = sym (none_passes c.args.live.now.mailbox.rows c.args.uid (λ row. nat_lt c.args.since row.modseq) (sym c.position.ensures ∙ c.in-None.is))
