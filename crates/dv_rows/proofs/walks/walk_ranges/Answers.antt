use Rattle.std.proofs.Common.{◌≡◌, ◌∙◌, [], ◌∷◌, ap, sym, length, arith}
use Rattle.std.specs.Prelude.{map}
use Rattle.std.proofs.lemmas.List.{map-id}
use Rattle.dv_rows.specs.Noted.{by_range, noted}
use Rattle.dv_rows.proofs.Walking.{one_more, still_rows}
use Rattle.dv_rows.proofs.walks.walk_ranges.Goals as goal

pub loop-range-init : goal.loop-range-init
loop-range-init g c = record {
  is = sym (map-id (noted c.args.rows.now c.args.notes.now));
  rows = c.requires.rows;
  many = c.requires.noted;
  tally = c.requires.tally;
}

pub loop-range-preserved : goal.loop-range-preserved
loop-range-preserved g c =
    let first = g.R.Range.lowest in
    let last = g.R.Range.highest in
    let after = g.S.Step.after c.args.step.now in
    let range = c.range-item.result in
    let many : length c.walk_range.new.notes ≡ length c.walk_range.new.rows = omega (arith, c.loop-range.invariant.many, c.walk_range.auto.rows, c.walk_range.auto.notes) in
    record {
      is = one_more first last after c.args.ranges.now c.loop-range.range-index range (noted c.args.rows.now c.args.notes.now) (noted c.loop-range.rows c.loop-range.notes) (noted c.walk_range.new.rows c.walk_range.new.notes)
          c.loop-range-test.true c.loop-range.invariant.is
          (c.walk_range.ensures.is ∙ ap (λ r. map (λ p. by_range first last after p r) (noted c.loop-range.rows c.loop-range.notes)) c.range-item.is);
      rows = still_rows first last after (g.met.S.Step.keeps c.args.step.now) (range ∷ []) c.loop-range.rows c.loop-range.notes c.walk_range.new.rows c.walk_range.new.notes c.loop-range.invariant.many many c.walk_range.ensures.is c.loop-range.invariant.rows;
      many = many;
      tally = c.walk_range.ensures.tally;
    }
