use Rattle.std.proofs.Common.{ap, sym, ◌∙◌, arith}
use Rattle.std.proofs.lemmas.List.{take_all}
use Rattle.dv_ext.specs.Sizes.{sizes_of}
use Rattle.dv_ext.proofs.Sizing.{other_size, sizes_test}
use Rattle.dv_ext.proofs.sizes.have_sizes.Goals as goal

pub returns-then-one-at : goal.returns-then-one-at
returns-then-one-at c =
    sym (other_size c.args.one.now c.args.other.now c.loop-at.at c.index-one-at.result c.index-other-at.result c.loop-at-test.true (omega (arith, c.loop-at-test.true, c.if-one-other.false)) (λ same. absurd (c.if-one-at.true same)))

pub returns : goal.returns
returns c =
    let one = c.args.one.now in
    let other = c.args.other.now in
    let at = c.loop-at.at in
    sym (sizes_test one other
    (ap sizes_of (sym (take_all at one c.loop-at-test.false)) ∙ c.loop-at.invariant ∙ ap sizes_of (take_all at other (omega (arith, c.loop-at-test.false, c.if-one-other.false)))))
