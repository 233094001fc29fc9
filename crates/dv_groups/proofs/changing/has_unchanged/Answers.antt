use Rattle.std.proofs.Common.{◌∙◌, sym, arith}
use Rattle.dv_model.specs.Sessions.{is_unchanged}
use Rattle.dv_responses.proofs.Having.{none_passes, one_passes}
use Rattle.dv_groups.proofs.Missing.{not_given}
use Rattle.dv_groups.proofs.changing.has_unchanged.Goals as goal

pub returns-then-uid-next_uid : goal.returns-then-uid-next_uid
returns-then-uid-next_uid c = sym (not_given c.args.live.now.mailbox (is_unchanged c.args.since) c.args.uid c.next_uid.ensures.valid (omega (arith, c.next_uid.ensures.is, c.if-uid-next_uid.true)))

pub returns-in-Some : goal.returns-in-Some
returns-in-Some c =
    c.is_unchanged.ensures ∙ sym (one_passes c.args.live.now.mailbox.rows c.args.uid (is_unchanged c.args.since) c.next_uid.ensures.valid.rising c.in-Some.at c.row.result.now (sym c.position.ensures ∙ c.in-Some.is) c.row.ensures)

pub returns-in-None : goal.returns-in-None
returns-in-None c = sym (none_passes c.args.live.now.mailbox.rows c.args.uid (is_unchanged c.args.since) (sym c.position.ensures ∙ c.in-None.is))
