use Rattle.std.proofs.Common.{◌∙◌, ◌++◌, ◌∷◌, [], ap, map, sym, take}
use Rattle.std.proofs.lemmas.List.{map-append, take_all}
use Rattle.dv_model.specs.declared.types.Fresh.{Fresh}
use Rattle.dv_live.specs.declared.verdicts.Verdict.{Verdict}
use Rattle.dv_live.specs.Turning.{verdict_of}
use Rattle.dv_live.proofs.Turning.{map_more, uids_of}
use Rattle.dv_live.proofs.verdicts.verdicts_of.Goals as goal

pub loop-f-preserved : goal.loop-f-preserved
loop-f-preserved c =
    let fresh = c.args.fresh.now in
    let names = c.args.names.now in
    let i = c.loop-f.f-index in
    let f = c.f-item.result in
    let v = c.in_ok-verdict_of.field-0 in
    record {
      verdicts = λ key ready steady_key.
          c.in_ok-push.ensures.items
          ∙ ap (λ vs. vs ++ v ∷ []) (c.loop-f.invariant.verdicts key ready steady_key)
          ∙ ap (λ w. map (verdict_of key names) (take i fresh) ++ w ∷ []) (c.in_ok-verdict_of.ensures.verdict key ready steady_key)
          ∙ sym (map_more (verdict_of key names) fresh i f c.loop-f-test.true c.f-item.is);
      uids =
          ap uids_of c.in_ok-push.ensures.items ∙ map-append (λ (w : Verdict). w.uid) c.loop-f.made.items (v ∷ [])
          ∙ ap (λ us. us ++ v.uid ∷ []) c.loop-f.invariant.uids
          ∙ ap (λ u. map (λ (g : Fresh). g.uid) (take i fresh) ++ u ∷ []) c.in_ok-verdict_of.ensures.uid
          ∙ sym (map_more (λ (g : Fresh). g.uid) fresh i f c.loop-f-test.true c.f-item.is);
    }

pub returns-clause-verdicts : goal.returns-clause-verdicts
returns-clause-verdicts c = λ key ready steady_key.
    c.loop-f.invariant.verdicts key ready steady_key ∙ ap (map (verdict_of key c.args.names.now)) (take_all c.loop-f.f-index c.args.fresh.now c.loop-f-test.false)

pub returns-clause-uids : goal.returns-clause-uids
returns-clause-uids c = c.loop-f.invariant.uids ∙ ap (map (λ (g : Fresh). g.uid)) (take_all c.loop-f.f-index c.args.fresh.now c.loop-f-test.false)
