use Rattle.dv_records.proofs.Payloads.{payload-short}
use Rattle.dv_records.proofs.encoding.encode.Goals as goal

pub write_payload-requires : goal.write_payload-requires
write_payload-requires c = payload-short c.args.r.now.body _ c.requires.spells.payload
