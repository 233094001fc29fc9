use Rattle.std.proofs.Common.{arith}
use Rattle.dv_records.proofs.Payloads.{payload-whole}
use Rattle.dv_records.proofs.encoding.write_record.Goals as goal

pub size_code-requires-clause-whole : goal.size_code-requires-clause-whole
size_code-requires-clause-whole c = let words = payload-whole c.args.r.now.body _ c.requires.record.spells.payload in grind arith
