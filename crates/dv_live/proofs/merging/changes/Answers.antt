use Rattle.std.proofs.Common.{◌≡◌, get_or, subst, sym, take}
use Rattle.std.specs.Prelude.{All}
use Rattle.std.proofs.lemmas.List.{take_all, take_more}
use Rattle.std.proofs.lemmas.List.Elements.{All-push}
use Rattle.dv_live.specs.declared.verdicts.Verdict.{Verdict}
use Rattle.dv_live.specs.Turning.{has_uid}
use Rattle.dv_live.proofs.Turning.{none}
use Rattle.dv_live.proofs.merging.changes.Goals as goal

pub loop-v-preserved : goal.loop-v-preserved
loop-v-preserved c =
    let P = λ (v : Verdict). v.met ≡ has_uid c.args.uids.now v.uid in
    let vs = c.args.verdicts.now in
    let i = c.loop-v.v-index in
    subst (All P) (sym (take_more vs i none c.loop-v-test.true)) (All-push P (take i vs) (get_or vs i none) c.loop-v.invariant (c.is_change.ensures c.if-is_change.false))

pub returns : goal.returns
returns c = λ e. subst (All (λ (v : Verdict). v.met ≡ has_uid c.args.uids.now v.uid)) (take_all c.loop-v.v-index c.args.verdicts.now c.loop-v-test.false) c.loop-v.invariant
