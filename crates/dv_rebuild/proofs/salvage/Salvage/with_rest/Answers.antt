use Rattle.std.proofs.Common.{ap}
use Rattle.std.specs.Prelude.{is_some}
use Rattle.dv_chain.proofs.Walks.{was_read}
use Rattle.dv_rebuild.specs.Walks.{salvaged_of}
use Rattle.dv_rebuild.proofs.Walks.{salvaged_all, salvaging_more}
use Rattle.dv_rebuild.proofs.salvage.Salvage.with_rest.Goals as goal

pub loop-salvage-preserved : goal.loop-salvage-preserved
loop-salvage-preserved c =
    let b = c.args.b.now in
    let there = rw c.in-Some.is at c.in_ok-record.ensures.record_at in
    let read = was_read b c.loop-salvage.at c.in-Some.behind c.in-Some.record c.loop-salvage.invariant.inside there.0 there.2 in
    salvaging_more b c.args.from (salvaged_of c.args.self) c.loop-salvage.at (salvaged_of c.loop-salvage.salvage) c.in-Some.behind c.in-Some.record _ c.loop-salvage.invariant read there.1 c.in_ok-taken.ensures

pub returns : goal.returns
returns c = λ spots end left.
    salvaged_all c.args.b.now c.args.from (salvaged_of c.args.self) c.loop-salvage.at (salvaged_of c.loop-salvage.salvage) c.loop-salvage.invariant (c.in_ok-record.ensures.closed (ap is_some c.in_default.is)) spots end left
