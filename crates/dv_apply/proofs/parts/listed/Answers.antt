use Rattle.std.proofs.Common.{◌<◌, ◌++◌, [], ◌∷◌, List, length, get_or, ap, sym, ◌∙◌, arith}
use Rattle.std.proofs.lemmas.List.{take_more}
use Rattle.std.proofs.lemmas.Option.{get_or_from_slice_get}
use Rattle.dv_model.specs.declared.types.Row.{Row}
use Rattle.dv_apply.proofs.parts.listed.Goals as goal

pub loop-k-preserved : goal.loop-k-preserved
loop-k-preserved c =
    let rows : List Row = c.args.rows.now.rows in
    let k = c.loop-k.k in
    let row : Row = c.row.result.now in
    let less : k < length rows = omega (arith, c.loop-k-test.true, c.count-k-end.ensures.is) in
    c.in_ok-push.ensures.ok
    ∙ ap (λ (r : Row). c.loop-k.list ++ r ∷ []) (c.in_ok-row.ensures ∙ sym (get_or_from_slice_get rows k row row c.row.ensures))
    ∙ ap (λ (rs : List Row). rs ++ get_or rows k row ∷ []) c.loop-k.invariant
    ∙ sym (take_more rows k row less)
