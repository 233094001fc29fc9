use Rattle.std.proofs.Common.{sym}
use Rattle.std.proofs.lemmas.Option.{get_or_from_slice_get}
use Rattle.dv_touched.proofs.Told.{found, not_found}
use Rattle.dv_touched.proofs.merging.row_of.Goals as goal

pub returns-in-Some : goal.returns-in-Some
returns-in-Some c =
    sym (found c.args.uid c.in-Some.at c.args.rows.now.rows c.row.result.now (sym c.in-Some.ensures) (get_or_from_slice_get c.args.rows.now.rows c.in-Some.at c.row.result.now c.row.result.now c.row.ensures))

pub returns-in-None : goal.returns-in-None
returns-in-None c = sym (not_found c.args.uid c.args.rows.now.rows (sym c.in-None.ensures))
