use Rattle.std.proofs.Common.{◌≡◌, ◌∙◌, ◌∷◌, ◌++◌, false, take, drop, ap, sym, nat_eq}
use Rattle.std.proofs.lemmas.List.Elements.{All-same}
use Rattle.dv_sets.proofs.Pieces.{none_before, front_lacks, parts_at}
use Rattle.dv_sets.proofs.cutting.cut.Goals as goal

pub returns-in-None-clause-front : goal.returns-in-None-clause-front
returns-in-None-clause-front c = none_before c.args.byte c.args.text.now c.in-None.ensures

pub returns-in-Some-clause-front : goal.returns-in-Some-clause-front
returns-in-Some-clause-front c = All-same (λ b. nat_eq b c.args.byte ≡ false) c.split_at.result.0.now (take c.in-Some.at c.args.text.now) c.split_at.ensures.front (front_lacks c.args.byte c.in-Some.at c.args.text.now c.in-Some.ensures)

pub returns-in-Some-clause-parts : goal.returns-in-Some-clause-parts
returns-in-Some-clause-parts c =
    let text = c.args.text.now in
    let at = c.in-Some.at in
    parts_at c.args.byte at text c.in-Some.ensures ∙ ap (λ t. t ++ c.args.byte ∷ drop 1 (drop at text)) (sym c.split_at.ensures.front) ∙ ap (λ t. c.split_at.result.0.now ++ c.args.byte ∷ t) (ap (drop 1) (sym c.split_at.ensures.back) ∙ sym c.split_at-in-Some.ensures.back)
