use Rattle.std.proofs.Common.{◌≡◌, ◌∷◌, ◌++◌, [], get_or, length, take, arith, ap, subst, sym, ◌∙◌}
use Rattle.std.proofs.lemmas.List.{length-take, take_more}
use Rattle.dv_keywords.specs.Finding.{FindsAll}
use Rattle.dv_keywords.proofs.Finding.{finds_more, new_at}
use Rattle.dv_keywords.proofs.index.Index.of.Goals as goal

pub loop-at-preserved : goal.loop-at-preserved
loop-at-preserved c =
    let names = c.args.names.now in
    let at = c.loop-at.at in
    let name = c.as_slice.result.now in
    let d = c.index-names-at.result in
    let here : get_or names at d ≡ name = sym c.index-names-at.is ∙ sym c.as_slice.ensures in
    let size : at ≡ length (take at names) = omega (arith, length-take at names) in
    subst (FindsAll c.insert.new.self.map) (ap (λ n. take at names ++ n ∷ []) (sym here) ∙ sym (take_more names at d (omega arith)))
    (finds_more (take at names) name at c.loop-at.index.map c.insert.new.self.map (new_at names at name d c.requires.distinct (omega arith) here) size c.loop-at.invariant c.in_ok-insert.ensures.ok)
