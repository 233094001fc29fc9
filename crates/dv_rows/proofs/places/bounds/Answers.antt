use Rattle.std.proofs.Common.{◌-◌, ◌+◌, ℕ, length, sym, ◌∙◌, ap, subst}
use Rattle.std.specs.Prelude.{min}
use Rattle.dv_rows.specs.Places.{AreBounds}
use Rattle.dv_rows.proofs.Bounds.{bounds_hold}
use Rattle.dv_rows.proofs.places.bounds.Goals as goal

pub returns : goal.returns
returns c =
    let rows = c.args.rows.now in
    let low = c.saturating_sub.ensures ∙ ap (λ (n : ℕ). length rows - n) c.saturating_sub-behind.ensures in
    let high = c.min.ensures ∙ ap (λ (n : ℕ). min (length rows) n) c.saturating_sub-before.ensures in
    let holds = bounds_hold rows c.requires c.args.uid c.in-Some-Some.first.now c.in-Some-Some.last.now c.in-Some-Some.ensures.item.3.0 c.in-Some-Some.ensures.item.1 c.in-Some-Some.ensures'.item.1 in
    subst (λ (n : ℕ). AreBounds rows c.args.uid n c.min.result) (sym low)
    (subst (λ (n : ℕ). AreBounds rows c.args.uid (length rows - ((c.in-Some-Some.last.now.uid + 1) - c.args.uid)) n) (sym high) holds)
