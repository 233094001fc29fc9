use Rattle.std.proofs.Common.{arith}
use Rattle.dv_cache.proofs.Rows.{entry_by}
use Rattle.dv_cache.proofs.finding.has_entry.Goals as goal

pub returns : goal.returns
returns c =
    entry_by c.args.b.now c.args.uid c.args.offset c.u32_at.result c.u32_at-else-b-at.result c.u32_at-2.result (omega arith) (omega arith) (omega arith) c.u32_at.ensures (omega arith) (omega arith) c.u32_at-else-b-at.ensures c.u32_at-2.ensures
