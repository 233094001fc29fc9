use Rattle.std.proofs.Common.{◌<◌, ◌^◌, length, arith}
use Rattle.dv_view.proofs.Rising.{few}
use Rattle.dv_view.proofs.fresh_places.left_number.Goals as goal

pub overflow_cast-result : goal.overflow_cast-result
overflow_cast-result c = let few : length c.args.rows.now < 2 ^ 32 = few c.args.rows.now c.requires in let less = c.in-Some.ensures.inside in omega (arith, few, less)

pub overflow_add-result : goal.overflow_add-result
overflow_add-result c = let few : length c.args.rows.now < 2 ^ 32 = few c.args.rows.now c.requires in let less = c.in-Some.ensures.inside in omega (arith, few, less)
