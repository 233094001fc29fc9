use Rattle.std.proofs.Common.{sym, ◌∙◌}
use Rattle.dv_portion.proofs.Surveying.{adds_by, adds_itself, named_by_all, no_rows, on_ok}
use Rattle.dv_portion.proofs.survey.name_all.Goals as goal

pub returns-then-count-eq0-clause-named : goal.returns-then-count-eq0-clause-named
returns-then-count-eq0-clause-named c = λ uid h. absurd (no_rows c.args.rows.now.rows uid (sym c.count.ensures.is ∙ c.if-count-eq0.true) h)

pub returns-then-count-eq0-clause-adds : goal.returns-then-count-eq0-clause-adds
returns-then-count-eq0-clause-adds c = adds_itself c.args.rows.now.rows c.args.uids.now.items

pub returns-clause-named : goal.returns-clause-named
returns-clause-named c = on_ok c.name_uids.result c.name_uids.ensures.named (λ each uid h. each uid (h, named_by_all c.args.rows.now.rows uid c.count.ensures.rows h))

pub returns-clause-adds : goal.returns-clause-adds
returns-clause-adds c = adds_by c.args.rows.now.rows c.args.uids.now.items c.name_uids.new.uids.items _ c.name_uids.ensures.kept c.name_uids.ensures.only
