use Rattle.std.proofs.Common.{◌≡◌, ◌<◌, ◌^◌, ap, arith, length, rules}
use Rattle.dv_rows.proofs.Rising.{few}
use Rattle.dv_rows.proofs.rows.Rows.position.Goals as goal

pub overflow_cast-result : goal.overflow_cast-result
overflow_cast-result c =
    let few_rows : length c.self.inside.rows.items < 2 ^ 32 = few c.self.inside.rows.items c.self.invariant.counted.are in
    let same : length c.deref.result.now ≡ length c.self.inside.rows.items = ap length c.deref.ensures.value in
    let inside : c.in-Some.at < length c.deref.result.now = c.in-Some.ensures.inside in
    let small : c.in-Some.at < 2 ^ 32 = omega arith in
    search rules
