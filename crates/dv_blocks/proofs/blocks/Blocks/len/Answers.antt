use Rattle.std.proofs.Common.{◌≡◌, ◌<◌, ◌^◌, ap, arith, length, rules}
use Rattle.dv_blocks.specs.Chunks.{cells_of}
use Rattle.dv_blocks.proofs.Coming.{few}
use Rattle.dv_blocks.proofs.blocks.Blocks.len.Goals as goal

pub count-requires-clause-few : goal.count-requires-clause-few
count-requires-clause-few c =
    let small : length (cells_of c.self.inside.chunks.items) < 2 ^ 32 = few c.self.inside.chunks.items c.self.invariant.are.rising in
    let same : length (cells_of c.deref-2.result.now) ≡ length (cells_of c.self.inside.chunks.items) = ap (λ l. length (cells_of l)) c.deref-2.ensures.value in
    omega arith

pub overflow_cast-result : goal.overflow_cast-result
overflow_cast-result c =
    let small : length (cells_of c.self.inside.chunks.items) < 2 ^ 32 = few c.self.inside.chunks.items c.self.invariant.are.rising in
    let same : length (cells_of c.deref-2.result.now) ≡ length (cells_of c.self.inside.chunks.items) = ap (λ l. length (cells_of l)) c.deref-2.ensures.value in
    let is = c.count.ensures in
    let less : c.count.result < 2 ^ 32 = omega arith in
    search rules
