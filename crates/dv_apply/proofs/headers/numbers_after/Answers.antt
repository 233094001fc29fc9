use Rattle.std.proofs.Common.{get_or, take, ap, ◌∙◌, subst, sym, refl}
use Rattle.std.specs.Prelude.{All}
use Rattle.std.proofs.lemmas.List.{take_all, take_more}
use Rattle.std.proofs.lemmas.List.Elements.{All-push}
use Rattle.std.proofs.lemmas.List.Sums.{fold_more}
use Rattle.dv_model.specs.Effects.{with_header_part}
use Rattle.dv_validity.proofs.Headers.{IsPartInRange}
use Rattle.dv_apply.proofs.headers.numbers_after.Goals as goal

pub loop-part-preserved : goal.loop-part-preserved
loop-part-preserved c =
    let i = c.loop-part.part-index in
    let parts = c.args.parts.now in
    let part = c.part-item.result in
    let more = take_more parts i part c.loop-part-test.true in
    let n = c.loop-part.numbers in
    record {
      is = λ m v u.
          fold_more with_header_part m parts i part c.loop-part-test.true
          ∙ ap (λ x. with_header_part x (get_or parts i part)) (c.loop-part.invariant.is m v u)
          ∙ ap (with_header_part (record m { uid_validity = n.0; next_uid = n.1 })) (sym c.part-item.is)
          ∙ c.numbers_behind-numbers.ensures.is (record m { uid_validity = n.0; next_uid = n.1 }) refl refl;
      range = subst (All IsPartInRange) (sym more) (All-push IsPartInRange (take i parts) _ c.loop-part.invariant.range (subst IsPartInRange c.part-item.is c.numbers_behind-numbers.ensures.range));
    }

pub returns-clause-range : goal.returns-clause-range
returns-clause-range c = subst (All IsPartInRange) (take_all c.loop-part.part-index c.args.parts.now c.loop-part-test.false) c.loop-part.invariant.range
