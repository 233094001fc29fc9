use Rattle.std.proofs.Common.{◌∙◌, ap, sym}
use Rattle.std.specs.Prelude.{is_some}
use Rattle.dv_rows.proofs.Filtered.{has_place, turned}
use Rattle.dv_rows.proofs.parting.lacks.Goals as goal

pub returns : goal.returns
returns c = turned _ _ (sym (has_place c.args.uid c.args.part.now.rows) ∙ ap is_some (sym c.position.ensures) ∙ c.is_none.ensures)
