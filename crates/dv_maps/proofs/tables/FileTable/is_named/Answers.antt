use Rattle.std.proofs.Common.{◌∙◌}
use Rattle.dv_maps.proofs.ByFile.{named_by}
use Rattle.dv_maps.proofs.tables.FileTable.is_named.Goals as goal

pub returns : goal.returns
returns c = λ rs is. named_by c.args.file rs c.rows_of.result.now c.is_empty.result (c.rows_of.ensures ∙ is c.args.file) c.is_empty.ensures
