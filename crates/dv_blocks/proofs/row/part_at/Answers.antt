use Rattle.std.proofs.Common.{◌≡◌, ◌∙◌, ◌+◌, ◌<◌, ℕ, ap, arith, drop, length, subst, sym, take}
use Rattle.std.specs.Prelude.{Some}
use Rattle.dv_blocks.specs.Shared.{cut}
use Rattle.dv_blocks.proofs.Cuts.{behind, there}
use Rattle.dv_blocks.proofs.row.part_at.Goals as goal

pub loop-k-preserved : goal.loop-k-preserved
loop-k-preserved c =
    let sizes = c.args.sizes.now in
    let rest = c.loop-k.rest.now in
    let k = c.loop-k.k in
    let inside : k < length sizes = let less = c.loop-k-test.true in let most = c.requires in omega arith in
    ap (cut (drop (k + 1) sizes)) (c.split_at.ensures.back ∙ ap (λ (n : ℕ). drop n rest) c.min-size.ensures)
    ∙ behind sizes c.args.parts.now rest k c.from.result inside c.from.ensures c.loop-k.invariant

pub returns : goal.returns
returns c =
    let sizes = c.args.sizes.now in
    let rest = c.loop-k.rest.now in
    let end : c.loop-k.k ≡ c.args.at = let past = c.loop-k-test.false in let most = c.loop-k.auto.k-end in omega arith in
    let is : cut (drop c.args.at sizes) rest ≡ drop c.args.at (cut sizes c.args.parts.now) = subst (λ (n : ℕ). cut (drop n sizes) rest ≡ drop n (cut sizes c.args.parts.now)) end c.loop-k.invariant in
    there sizes c.args.parts.now rest c.args.at c.from-2.result c.requires c.from-2.ensures is
    ∙ ap Some (sym (c.split_at-2.ensures.front ∙ ap (λ (n : ℕ). take n rest) c.min-size-2.ensures))
