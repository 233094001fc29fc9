use Rattle.std.proofs.Common.{rules}
use Rattle.std.proofs.lemmas.Fn.{filter_same}
use Rattle.dv_blocks.specs.Chunks.{has_rows}
use Rattle.dv_blocks.proofs.removing.drop_empty.Goals as goal

pub returns : goal.returns
returns c = filter_same _ has_rows _ (λ x b f' k. search rules) _ _ c.retain.ensures.filtered
