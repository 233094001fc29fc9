use Rattle.std.proofs.Common.{◌∙◌, ◌++◌, ap, sym}
use Rattle.std.proofs.lemmas.List.{drop_all}
use Rattle.dv_live.specs.Turning.{turned}
use Rattle.dv_live.proofs.Turning.{once_more}
use Rattle.dv_live.proofs.merging.merged.Goals as goal

pub loop-v-preserved : goal.loop-v-preserved
loop-v-preserved c = record {
  rising = c.in_ok-rest.ensures.rising;
  parts = once_more c.loop-v.made.items c.add_until.new.made.items c.loop-v.rest.now c.in_ok-rest.rest.now c.args.uids.now c.args.verdicts.now c.loop-v.v-index c.loop-v-test.true c.requires.verdicts
      c.in_ok-rest.ensures.step c.loop-v.invariant.parts;
}

pub returns : goal.returns
returns c =
    c.in_ok-extend_from_slice.ensures.items
    ∙ ap (λ vs. c.loop-v.made.items ++ turned c.loop-v.rest.now vs) (sym (drop_all c.loop-v.v-index c.args.verdicts.now c.loop-v-test.false))
    ∙ c.loop-v.invariant.parts
