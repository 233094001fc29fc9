use Rattle.std.proofs.Common.{arith}
use Rattle.dv_mdbox.proofs.Listed.{next_at, none_at_first, none_later, one_more}
use Rattle.dv_mdbox.proofs.listing.next_listed.Goals as goal

pub loop-row-init : goal.loop-row-init
loop-row-init c = none_at_first c.args.live.now.mailbox c.rows_from-rows.result.now

pub loop-row-preserved : goal.loop-row-preserved
loop-row-preserved c = one_more c.args.live.now.mailbox c.rows_from-rows.result.now c.loop-row.row-index _ c.reference_of.result c.is_none.result c.loop-row-test.true c.loop-row.invariant c.reference_of.ensures.is c.is_none.ensures c.if-is_none.false

pub returns-then-is_none : goal.returns-then-is_none
returns-then-is_none c =
    next_at c.args.live.now.mailbox c.is_valid.ensures c.args.from c.args.table.now c.requires c.rows_from-rows.result.now c.rows_from-rows.ensures.is c.loop-row.row-index _ c.reference_of.result c.is_none.result c.loop-row.invariant c.loop-row-test.true c.rows_from-rows.ensures.rising c.reference_of.ensures.is c.is_none.ensures c.if-is_none.true

pub returns : goal.returns
returns c =
    none_later c.args.live.now.mailbox c.is_valid.ensures c.args.from c.args.table.now c.requires c.rows_from-rows.result.now c.rows_from-rows.ensures.is c.loop-row.row-index c.loop-row.invariant (omega (arith, c.loop-row-test.false))
