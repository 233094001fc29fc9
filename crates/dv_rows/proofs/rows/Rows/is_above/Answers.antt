use Rattle.std.proofs.Common.{◌≡◌, ◌-◌, ◌∙◌, Some, ap, length, subst, sym}
use Rattle.std.specs.Prelude.{slice_get}
use Rattle.dv_rows.proofs.Rising.{LastTells, last_tells}
use Rattle.dv_rows.specs.Kept.{Kept}
use Rattle.dv_rows.proofs.rows.Rows.is_above.Goals as goal

pub returns-in-Some : goal.returns-in-Some
returns-in-Some c =
    let last : slice_get c.self.inside.rows.items (length c.self.inside.rows.items - 1) ≡ Some c.in-Some.row.now =
    ap (λ l. slice_get l (length l - 1)) (sym c.deref.ensures.value) ∙ sym c.in-Some.ensures.value in
    subst (LastTells c.args.uid c.in-Some.row.now) (ap (λ (kept : Kept). kept.rows) c.self.view_is) (last_tells c.self.inside.rows.items c.in-Some.row.now c.args.uid c.self.invariant.counted.are last)
