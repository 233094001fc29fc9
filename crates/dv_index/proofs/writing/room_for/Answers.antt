use Rattle.std.proofs.Common.{arith}
use Rattle.dv_index.proofs.Counts.{few_names}
use Rattle.dv_index.proofs.writing.room_for.Goals as goal

pub row_size-requires-clause-names : goal.row_size-requires-clause-names
row_size-requires-clause-names c = let few = few_names c.args.m.now in omega (arith, few, c.requires.tables, c.requires.room)
