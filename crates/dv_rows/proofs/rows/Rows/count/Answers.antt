use Rattle.std.proofs.Common.{◌<◌, ◌^◌, length, rules}
use Rattle.dv_rows.proofs.Rising.{few}
use Rattle.dv_rows.proofs.rows.Rows.count.Goals as goal

pub overflow_cast-result : goal.overflow_cast-result
overflow_cast-result c = let small : length c.self.inside.rows.items < 2 ^ 32 = few c.self.inside.rows.items c.self.invariant.counted.are in search rules
