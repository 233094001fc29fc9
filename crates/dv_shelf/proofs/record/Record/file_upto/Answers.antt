use Rattle.std.proofs.Common.{◌∙◌, ap, take}
use Rattle.dv_shelf.proofs.DiskLemmas.{read_on, read_upto}
use Rattle.dv_shelf.proofs.RecordLemmas.{seen_within}
use Rattle.dv_shelf.proofs.record.Record.file_upto.Goals as goal

pub file_after-requires : goal.file_after-requires
file_after-requires c = seen_within c.args.self.now.calls.items _ _ _ c.args.self.now.within c.args.count (c.split_at.ensures.front ∙ ap (take c.args.count) c.as_slice.ensures.value) _ c.loop-call-test.true

pub loop-call-preserved : goal.loop-call-preserved
loop-call-preserved c =
    read_on c.args.self.now.bytes.items (take c.args.count c.args.self.now.calls.items) _ c.loop-call.call-index _ c.args.name c.loop-call.file _ (c.split_at.ensures.front ∙ ap (take c.args.count) c.as_slice.ensures.value) c.loop-call-test.true c.loop-call.invariant c.in_ok-file.ensures

pub returns : goal.returns
returns c = read_upto c.args.self.now.bytes.items c.args.self.now.calls.items _ c.args.count c.loop-call.call-index c.args.name c.loop-call.file (c.split_at.ensures.front ∙ ap (take c.args.count) c.as_slice.ensures.value) c.loop-call-test.false c.loop-call.invariant
