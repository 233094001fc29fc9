use Rattle.std.proofs.Common.{◌<◌, ◌+◌, ◌≡◌, arith, get_or, ℕ, subst, sym, take}
use Rattle.std.specs.Prelude.{All, max}
use Rattle.std.proofs.lemmas.List.{get_or_default, take_all}
use Rattle.std.proofs.lemmas.List.Elements.{All-more, All-weaker}
use Rattle.dv_sets.specs.declared.joining.Range.{Range}
use Rattle.dv_sets.proofs.Joins.{IsJoined, joined_all, joined_more}
use Rattle.dv_sets.proofs.joining.sweep.Goals as goal

abbrev none : Range
none = record { low = 0; high = 0 }

pub loop-range-preserved : goal.loop-range-preserved
loop-range-preserved c =
    let xs = c.args.ranges.now in
    let j = c.loop-range.range-index in
    let x = get_or xs j none in
    let next = c.loop-range.next in
    let done = c.loop-range.invariant.done in
    let more : c.max-next.result ≡ max next (x.high + 1) = omega (arith, c.max-next.ensures, c.from.ensures) in
    record {
      done =
          All-more (λ (r : Range). r.high < c.max-next.result) xs j none c.loop-range-test.true
          (All-weaker (λ (r : Range). r.high < next) (λ (r : Range). r.high < c.max-next.result) (λ r end. omega arith) (take j xs) done) (omega arith);
      joined =
          subst (λ (n : ℕ). IsJoined xs n c.add_range.new.joined) (sym more)
          (subst (IsJoined xs (max next (x.high + 1))) (sym c.in_ok-add_range.ensures)
          (joined_more xs c.requires j next x c.loop-range.joined c.loop-range-test.true (get_or_default xs j none x c.loop-range-test.true) done c.loop-range.invariant.joined));
    }

pub returns-clause-same : goal.returns-clause-same
returns-clause-same c =
    let xs = c.args.ranges.now in
    joined_all xs c.requires c.loop-range.next c.loop-range.joined
    (subst (All (λ (r : Range). r.high < c.loop-range.next)) (take_all c.loop-range.range-index xs c.loop-range-test.false) c.loop-range.invariant.done)
    c.loop-range.invariant.joined
