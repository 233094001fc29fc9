use Rattle.std.proofs.Common.{◌∙◌, ◌++◌, List, ℕ, ap, arith}
use Rattle.dv_map_groups.proofs.Recorded.{places_all, places_more}
use Rattle.dv_map_groups.proofs.records.place_rows.Goals as goal

pub loop-row-preserved : goal.loop-row-preserved
loop-row-preserved c =
    c.in_ok-extend.ensures.ok ∙ ap (λ (l : List ℕ). c.loop-row.bytes ++ l) (c.as_slice.ensures ∙ c.in_ok-one.ensures) ∙ places_more c.args.rows.now c.loop-row.row-index _ c.loop-row.bytes c.loop-row-test.true c.loop-row.invariant

pub returns : goal.returns
returns c = places_all c.args.rows.now c.loop-row.row-index c.loop-row.bytes (omega (arith, c.loop-row-test.false)) c.loop-row.invariant
