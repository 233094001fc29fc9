use Rattle.dv_sets.proofs.Largest.{last_is_largest}
use Rattle.dv_sets.proofs.choosing.largest_uid.Goals as goal

pub returns-in-Some : goal.returns-in-Some
returns-in-Some c = last_is_largest c.args.rows.now c.in-Some.row.now c.requires c.in-Some.ensures.item.3.0 c.in-Some.ensures.item.1
