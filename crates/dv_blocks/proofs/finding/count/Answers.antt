use Rattle.std.proofs.Common.{◌≡◌, ◌+◌, ◌-◌, arith, length}
use Rattle.dv_blocks.specs.declared.chunk.Chunk.{Chunk}
use Rattle.dv_blocks.proofs.Starts.{as_many, total}
use Rattle.dv_blocks.proofs.finding.count.Goals as goal

pub bounds-starts-blocks : goal.bounds-starts-blocks
bounds-starts-blocks c =
    let long = as_many c.args.starts.now c.args.chunks.now c.requires.counted in
    let some = c.if-blocks-eq0.false in
    omega arith

pub returns : goal.returns
returns c =
    let cs = c.args.chunks.now in
    let ns = c.args.starts.now in
    let x : Chunk = c.index-chunks-blocks.result in
    let some = c.if-blocks-eq0.false in
    let last : length cs - 1 + 1 ≡ length cs = omega arith in
    let all = total ns cs (length cs - 1) x c.requires.counted last in
    let is = c.len.ensures in
    omega arith
