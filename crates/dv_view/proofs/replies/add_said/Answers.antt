use Rattle.std.proofs.Common.{◌<◌, ◌^◌, length, rules}
use Rattle.dv_view.proofs.Rising.{few}
use Rattle.dv_view.proofs.replies.add_said.Goals as goal

pub add_removals-requires-clause-count : goal.add_removals-requires-clause-count
add_removals-requires-clause-count g c = few c.args.old.now c.requires.old_rows

pub overflow_cast-new : goal.overflow_cast-new
overflow_cast-new g c = let few : length c.args.new.now < 2 ^ 32 = few c.args.new.now c.requires.new_rows in search rules

pub add_changes-requires-clause-count : goal.add_changes-requires-clause-count
add_changes-requires-clause-count g c = few c.args.new.now c.requires.new_rows
