use Rattle.std.proofs.Common.{◌<◌, ◌^◌, length, sym, subst, ap, arith}
use Rattle.dv_index.proofs.Counts.{few_rows}
use Rattle.dv_index.proofs.tally.tally_of.Goals as goal

pub overflow_cast-result : goal.overflow_cast-result
overflow_cast-result c = let few = few_rows c.args.m.now c.requires in let same = ap length c.as_slice-rows.ensures in omega (arith, few, same)

pub count_with-requires : goal.count_with-requires
count_with-requires c = subst (λ rows. length rows < 2 ^ 32) (sym c.as_slice-rows.ensures) (few_rows c.args.m.now c.requires)

pub count_with-requires-2 : goal.count_with-requires-2
count_with-requires-2 c = subst (λ rows. length rows < 2 ^ 32) (sym c.as_slice-rows.ensures) (few_rows c.args.m.now c.requires)
