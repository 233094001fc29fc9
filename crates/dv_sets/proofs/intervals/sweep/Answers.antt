use Rattle.std.proofs.Common.{◌+◌, ◌-◌, ◌++◌, ◌≤◌, ◌∙◌, ℕ, List, map, take, get_or, ap, sym, subst, arith}
use Rattle.std.specs.Prelude.{All, max}
use Rattle.std.specs.List.{range_with_len}
use Rattle.std.proofs.lemmas.List.Elements.{All-more, All-weaker}
use Rattle.std.proofs.lemmas.List.{get_or_default, take_all}
use Rattle.dv_sets.specs.declared.intervals.Interval.{Interval}
use Rattle.dv_sets.specs.Intervals.{is_covered, numbers_where}
use Rattle.dv_sets.proofs.Swept.{rest, swept}
use Rattle.dv_sets.proofs.intervals.sweep.Goals as goal

abbrev none : Interval
none = record { from = 0; to = 0 }

pub loop-interval-preserved : goal.loop-interval-preserved
loop-interval-preserved c =
    let xs = c.args.intervals.now in
    let j = c.loop-interval.interval-index in
    let x = get_or xs j none in
    let next = c.loop-interval.next in
    let inside = c.requires.inside j none c.loop-interval-test.true in
    let low : next ≤ c.max-next.result = omega (arith, c.max-next.ensures) in
    let here : x.to ≤ c.max-next.result = omega (arith, c.max-next.ensures) in
    let within = c.loop-interval.invariant.within in
    record {
      within = omega (arith, c.max-next.ensures);
      done =
          All-more (λ (i : Interval). i.to ≤ c.max-next.result) xs j none c.loop-interval-test.true
          (All-weaker (λ (i : Interval). i.to ≤ next) (λ (i : Interval). i.to ≤ c.max-next.result) (λ i h. omega arith) (take j xs) c.loop-interval.invariant.done) here;
      numbers = c.in_ok-add_numbers.ensures
          ∙ ap (λ (n : ℕ). c.loop-interval.numbers ++ map (λ (k : ℕ). k + 1) (range_with_len n (x.to - n))) c.max.ensures
          ∙ ap (λ (t : List ℕ). t ++ map (λ (k : ℕ). k + 1) (range_with_len (max x.from next) (x.to - max x.from next))) c.loop-interval.invariant.numbers
          ∙ sym (swept xs c.requires.rising j next x c.loop-interval-test.true (get_or_default xs j none x c.loop-interval-test.true) c.loop-interval.invariant.done)
          ∙ ap (numbers_where (is_covered xs)) (sym c.max-next.ensures);
    }

pub returns : goal.returns
returns c =
    let xs = c.args.intervals.now in
    c.loop-interval.invariant.numbers
    ∙ sym (rest xs c.requires.rising c.loop-interval.next c.args.count c.loop-interval.invariant.within
    (subst (λ (is : List Interval). All (λ (i : Interval). i.to ≤ c.loop-interval.next) is) (take_all c.loop-interval.interval-index xs c.loop-interval-test.false) c.loop-interval.invariant.done))
