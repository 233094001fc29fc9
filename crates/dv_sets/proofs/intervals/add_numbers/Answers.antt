use Rattle.std.proofs.Common.{◌≡◌, ◌+◌, ◌-◌, ◌++◌, ◌∷◌, [], ◌∙◌, ℕ, List, map, ap, sym, arith, append_assoc}
use Rattle.std.specs.List.{range_with_len}
use Rattle.std.proofs.lemmas.List.FromFn.{map-range_with_len_more}
use Rattle.dv_sets.proofs.intervals.add_numbers.Goals as goal

pub loop-place-preserved : goal.loop-place-preserved
loop-place-preserved c =
    let from = c.args.from in
    let n = c.loop-place.place - from in
    let at = c.loop-place.invariant.at in
    let same : c.loop-place.place + 1 - from ≡ n + 1 = omega arith in
    record {
      at = omega arith;
      until = omega (arith, c.loop-place-test.true);
      numbers = c.in_ok-push.ensures.ok
          ∙ ap (λ (t : List ℕ). t ++ (c.loop-place.place + 1) ∷ []) c.loop-place.invariant.numbers
          ∙ append_assoc c.args.numbers.now (map (λ (k : ℕ). k + 1) (range_with_len from n)) ((c.loop-place.place + 1) ∷ [])
          ∙ ap (λ (t : List ℕ). c.args.numbers.now ++ t) (sym (map-range_with_len_more (λ (k : ℕ). k + 1) from n c.loop-place.place (omega arith)))
          ∙ ap (λ (m : ℕ). c.args.numbers.now ++ map (λ (k : ℕ). k + 1) (range_with_len from m)) (sym same);
    }

pub returns : goal.returns
returns c =
    let at = c.loop-place.invariant.at in
    let until = c.loop-place.invariant.until in
    c.loop-place.invariant.numbers
    ∙ ap (λ (m : ℕ). c.args.numbers.now ++ map (λ (k : ℕ). k + 1) (range_with_len c.args.from m)) (omega (arith, c.loop-place-test.false))
