use Rattle.std.proofs.Common.{◌∙◌, arith, refl}
use Rattle.dv_mdbox.proofs.Listed.{listed_more, listed_rows_all}
use Rattle.dv_mdbox.proofs.listing.listed_rows.Goals as goal

pub loop-row-preserved : goal.loop-row-preserved
loop-row-preserved c =
    listed_more c.args.live.now.mailbox c.is_valid.ensures c.args.file c.rows_of-rows.result.now (c.rows_of-rows.ensures ∙ c.requires) c.loop-row.row-index _ c.loop-row.found c.add_listed.new.rows c.loop-row-test.true c.loop-row.invariant c.in_ok-add_listed.ensures

pub returns : goal.returns
returns c = listed_rows_all c.args.live.now.mailbox c.is_valid.ensures c.args.file c.rows_of-rows.result.now (c.rows_of-rows.ensures ∙ c.requires) c.loop-row.row-index c.loop-row.found (omega (arith, c.loop-row-test.false)) c.loop-row.invariant
