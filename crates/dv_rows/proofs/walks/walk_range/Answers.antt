use Rattle.std.proofs.Common.{◌≡◌, ℕ, ◌<◌, ◌≤◌, ◌∙◌, ap, sym, subst, get_or, length, arith}
use Rattle.std.proofs.lemmas.List.{get_or_default}
use Rattle.dv_model.specs.declared.types.Row.{Row}
use Rattle.dv_rows.specs.Noted.{Noted, noted}
use Rattle.dv_rows.specs.Places.{IsPlace}
use Rattle.dv_rows.proofs.Rising.{few}
use Rattle.dv_rows.proofs.Walking.{noted_get, walk_ends, walk_goes_on, walk_starts}
use Rattle.dv_rows.proofs.walks.walk_range.Goals as goal

at_most : (a b x y : ℕ) → a ≡ x → y ≡ b → x ≤ y → a ≤ b
at_most a b x y p q h = omega arith

above : (a b x y : ℕ) → a ≡ x → y ≡ b → y < x → b < a
above a b x y p q h = omega arith

pub loop-at-init : goal.loop-at-init
loop-at-init g c = record {
  walks = walk_starts g.R.Range.lowest g.R.Range.highest (g.S.Step.after c.args.step.now) c.args.range.now c.args.rows.now c.args.notes.now c.place_from-at.result
      (subst (λ uid. IsPlace c.args.rows.now uid c.place_from-at.result) c.first.ensures c.place_from-at.ensures.is) c.place_from-at.ensures.inside c.requires.noted;
  tally = c.requires.tally;
}

pub step_at-requires-clause-few : goal.step_at-requires-clause-few
step_at-requires-clause-few g c =
    let many = few c.args.rows.now c.requires.rows in
    let same : length c.loop-at.rows ≡ length c.args.rows.now = c.loop-at.invariant.walks.same in
    omega arith

pub loop-at-preserved : goal.loop-at-preserved
loop-at-preserved g c =
    let same : length c.loop-at.rows ≡ length c.args.rows.now = c.loop-at.invariant.walks.same in
    let also : length c.loop-at.notes ≡ length c.args.rows.now = c.loop-at.invariant.walks.also in
    let many : length c.loop-at.notes ≡ length c.loop-at.rows = also ∙ sym same in
    record {
      walks = walk_goes_on g.R.Range.lowest g.R.Range.highest (g.S.Step.after c.args.step.now) c.args.range.now c.args.rows.now c.args.notes.now c.place_from-at.result c.loop-at.at c.loop-at.rows c.loop-at.notes c.step_at.new.rows c.step_at.new.notes
          c.loop-at.invariant.walks (omega arith)
          (λ d.
          let row : Row = c.index-rows-at.result in
          let here : (get_or (noted c.loop-at.rows c.loop-at.notes) c.loop-at.at d).row.uid ≡ (get_or c.loop-at.rows c.loop-at.at row).uid =
          ap (λ (p : Noted). p.row.uid) (noted_get c.loop-at.rows c.loop-at.notes c.loop-at.at d many)
          ∙ ap (λ (r : Row). r.uid) (get_or_default c.loop-at.rows c.loop-at.at d.row row (omega arith)) in
          at_most _ _ _ _ here c.last-last.ensures c.if-rows-at.true)
          (omega arith) (omega arith) c.step_at.ensures.is;
      tally = c.step_at.ensures.tally;
    }

pub returns-else-rows-at-clause-is : goal.returns-else-rows-at-clause-is
returns-else-rows-at-clause-is g c =
    let same : length c.loop-at.rows ≡ length c.args.rows.now = c.loop-at.invariant.walks.same in
    let also : length c.loop-at.notes ≡ length c.args.rows.now = c.loop-at.invariant.walks.also in
    let many : length c.loop-at.notes ≡ length c.loop-at.rows = also ∙ sym same in
    walk_ends g.R.Range.lowest g.R.Range.highest (g.S.Step.after c.args.step.now) c.args.range.now c.args.rows.now c.args.notes.now c.place_from-at.result c.loop-at.at c.loop-at.rows c.loop-at.notes c.requires.rows c.loop-at.invariant.walks
    (λ less d.
    let row : Row = c.index-rows-at.result in
    let here : (get_or (noted c.loop-at.rows c.loop-at.notes) c.loop-at.at d).row.uid ≡ (get_or c.loop-at.rows c.loop-at.at row).uid =
    ap (λ (p : Noted). p.row.uid) (noted_get c.loop-at.rows c.loop-at.notes c.loop-at.at d many)
    ∙ ap (λ (r : Row). r.uid) (get_or_default c.loop-at.rows c.loop-at.at d.row row (omega arith)) in
    above _ _ _ _ here c.last-last.ensures c.if-rows-at.false)

pub returns-after-loop-at-clause-is : goal.returns-after-loop-at-clause-is
returns-after-loop-at-clause-is g c =
    let same : length c.loop-at.rows ≡ length c.args.rows.now = c.loop-at.invariant.walks.same in
    walk_ends g.R.Range.lowest g.R.Range.highest (g.S.Step.after c.args.step.now) c.args.range.now c.args.rows.now c.args.notes.now c.place_from-at.result c.loop-at.at c.loop-at.rows c.loop-at.notes c.requires.rows c.loop-at.invariant.walks
    (λ less d. absurd (omega (arith, less, same)))
