use Rattle.std.proofs.Common.{◌∙◌, ◌⊎◌, ap, subst}
use Rattle.std.specs.Prelude.{Contains}
use Rattle.dv_rows.specs.Kept.{Kept}
use Rattle.dv_rows.specs.Parted.{IsNamed}
use Rattle.dv_rows.proofs.rows.Rows.name_uids.Goals as goal

pub returns-clause-only : goal.returns-clause-only
returns-clause-only g c = λ uid there.
    subst (λ rows. Contains c.args.uids.now.items uid ⊎ IsNamed g.R.Range.lowest g.R.Range.highest c.args.ranges.now rows uid) (c.deref.ensures.value ∙ ap (λ (kept : Kept). kept.rows) c.self.view_is)
    (c.name_ranges.ensures.only uid there)
