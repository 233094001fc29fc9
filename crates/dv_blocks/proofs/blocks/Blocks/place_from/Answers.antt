use Rattle.std.proofs.Common.{◌≡◌, ◌<◌, ◌^◌, ap, arith, length, rules}
use Rattle.dv_blocks.specs.Cells.{Cells}
use Rattle.dv_blocks.specs.Chunks.{cells_of, uids_of}
use Rattle.dv_blocks.proofs.Coming.{few}
use Rattle.dv_blocks.proofs.Found.{place_inside, uids_long}
use Rattle.dv_blocks.proofs.blocks.Blocks.place_from.Goals as goal

pub overflow_cast-result : goal.overflow_cast-result
overflow_cast-result c =
    let small : length (cells_of c.self.inside.chunks.items) < 2 ^ 32 = few c.self.inside.chunks.items c.self.invariant.are.rising in
    let same : length (cells_of c.deref-2.result.now) ≡ length (cells_of c.self.inside.chunks.items) = ap (λ l. length (cells_of l)) c.deref-2.ensures.value in
    let inside = place_inside (uids_of c.deref-2.result.now) c.args.uid c.place_from.result c.place_from.ensures in
    let long = uids_long c.deref-2.result.now in
    let less : c.place_from.result < 2 ^ 32 = omega arith in
    search rules

pub returns-clause-inside : goal.returns-clause-inside
returns-clause-inside c =
    let same : length (cells_of c.deref-2.result.now) ≡ length (cells_of c.self.inside.chunks.items) = ap (λ l. length (cells_of l)) c.deref-2.ensures.value in
    let inside = place_inside (uids_of c.deref-2.result.now) c.args.uid c.place_from.result c.place_from.ensures in
    let long = uids_long c.deref-2.result.now in
    let view : length (cells_of c.self.inside.chunks.items) ≡ length c.args.self.now.cells = ap (λ (s : Cells). length s.cells) c.self.view_is in
    omega arith
