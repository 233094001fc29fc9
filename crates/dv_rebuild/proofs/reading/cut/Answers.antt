use Rattle.dv_rebuild.proofs.Plans.{cut_result}
use Rattle.dv_rebuild.proofs.reading.cut.Goals as goal

pub returns-in-Err-BadRecord : goal.returns-in-Err-BadRecord
returns-in-Err-BadRecord c =
    let measured = rw c.in-Err-BadRecord.field-0-is at c.in-Err-BadRecord.ensures.measured in
    cut_result c.args.header.now c.args.bytes c.as_slice.result.now c.as_slice-in-Err-BadRecord.result.now c.from.result c.in-Err-BadRecord.offset c.closed.result c.requires c.from.ensures c.as_slice.ensures c.as_slice-in-Err-BadRecord.ensures measured c.closed.ensures.ok
