use Rattle.std.proofs.Common.{◌≡◌, rules}
use Rattle.std.specs.Int.{w32, to_le_bytes}
use Rattle.dv_cache.proofs.Places.{four_more}
use Rattle.dv_cache.proofs.writing.write_entry.Goals as goal

pub returns : goal.returns
returns c =
    let a : c.to_le_bytes.result ≡ to_le_bytes w32 c.args.uid = search rules in
    let b : c.to_le_bytes-2.result ≡ to_le_bytes w32 c.args.physical = search rules in
    let d : c.to_le_bytes-3.result ≡ to_le_bytes w32 c.args.virtual_size = search rules in
    let e : c.to_le_bytes-4.result ≡ to_le_bytes w32 c.args.place = search rules in
    four_more c.args.out.now c.to_le_bytes.result c.to_le_bytes-2.result c.to_le_bytes-3.result c.to_le_bytes-4.result c.extend.new.self c.extend-2.new.self c.extend-3.new.self c.extend-4.new.self
    (to_le_bytes w32 c.args.uid) (to_le_bytes w32 c.args.physical) (to_le_bytes w32 c.args.virtual_size) (to_le_bytes w32 c.args.place)
    a b d e c.in_ok-extend.ensures.ok c.in_ok-extend-2.ensures.ok c.in_ok-extend-3.ensures.ok c.in_ok-extend-4.ensures.ok
