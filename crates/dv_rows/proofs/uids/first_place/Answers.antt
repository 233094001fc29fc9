use Rattle.std.proofs.Common.{◌≡◌, ℕ, ◌<◌, ◌≤◌, ap, subst, false, length, take, get_or, arith}
use Rattle.std.specs.Prelude.{All}
use Rattle.std.specs.List.{list_any}
use Rattle.std.proofs.lemmas.List.{get_or_default, take_all}
use Rattle.dv_model.specs.declared.types.Row.{Row}
use Rattle.dv_rows.specs.Noted.{has}
use Rattle.dv_rows.specs.Places.{IsPlace}
use Rattle.dv_rows.proofs.Walking.{below, none_before, outside}
use Rattle.dv_rows.proofs.uids.first_place.Goals.{then-at-first+then-rows-at, else-at-first, else-at-first-via-then-at-first+else-rows-at, else-at-first-via-else-at-first}
use Rattle.dv_rows.proofs.uids.first_place.Goals as goal

after : (a x b u : ℕ) → x ≡ b → x < a → u ≡ a → b < u
after a x b u p h q = omega arith

pub loop-range-preserved : goal.loop-range-preserved
loop-range-preserved g c =
    let rows = c.args.rows.now in
    let i = c.loop-range.range-index in
    let range = c.range-item.result in
    let lowest = g.R.Range.lowest in
    let highest = g.R.Range.highest in
    let place : IsPlace rows (lowest range) c.place_from-at.result = subst (λ uid. IsPlace rows uid c.place_from-at.result) c.first.ensures c.place_from-at.ensures.is in
    let so_far = c.loop-range.invariant.before in
    let inside : c.loop-range.first ≤ length rows = c.loop-range.invariant.inside in
    elim c.if-at-first.branch [
      | then-at-first+then-rows-at w ↦
          let less : c.place_from-at.result < c.loop-range.first = w.if-at-first.true in
          rw w.first-is
          (record {
            inside = c.place_from-at.ensures.inside;
            before = none_before lowest highest rows c.args.ranges.now range i c.loop-range.first c.place_from-at.result c.loop-range-test.true c.range-item.is so_far inside (omega arith)
                (λ k d h. below lowest highest rows range c.place_from-at.result place k d h (omega arith));
          })
      | else-at-first w ↦
          rw w.first-is
          (record {
            inside = inside;
            before = none_before lowest highest rows c.args.ranges.now range i c.loop-range.first c.loop-range.first c.loop-range-test.true c.range-item.is so_far inside (omega arith)
                (elim w.else-at-first.branch [
                  | else-at-first-via-then-at-first+else-rows-at v ↦
                      let less : c.place_from-at.result < c.loop-range.first = v.if-at-first.true in
                      let high = v.if-rows-at.false in
                      λ k d h. outside lowest highest rows range c.place_from-at.result c.requires place (omega arith)
                      (λ e. after (get_or rows c.place_from-at.result v.index-rows-at.result).uid _ _ _ v.last.ensures high (ap (λ (r : Row). r.uid) (get_or_default rows c.place_from-at.result e v.index-rows-at.result (omega arith)))) k d (omega arith)
                  | else-at-first-via-else-at-first v ↦
                      let past : c.loop-range.first ≤ c.place_from-at.result = v.if-at-first.false in
                      λ k d h. below lowest highest rows range c.place_from-at.result place k d (omega arith) (omega arith)
                ]);
          })
    ]

pub returns-clause-before : goal.returns-clause-before
returns-clause-before g c =
    subst (λ l. All (λ (row : Row). list_any (has g.R.Range.lowest g.R.Range.highest row.uid) l ≡ false) (take c.loop-range.first c.args.rows.now))
    (take_all c.loop-range.range-index c.args.ranges.now c.loop-range-test.false) c.loop-range.invariant.before
