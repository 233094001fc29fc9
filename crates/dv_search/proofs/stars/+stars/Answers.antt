use Rattle.std.proofs.Common.{◌∙◌, List, ap, map, sym}
use Rattle.std.specs.List.{list_any}
use Rattle.dv_model.specs.declared.types.Key.{Key}
use Rattle.dv_search.specs.Stars.{names_star}
use Rattle.dv_search.proofs.Asking.{one_of}
use Rattle.dv_search.proofs.stars.+stars.Goals as goal

pub stands_in_any-returns-then-stands_in : goal.stands_in_any-returns-then-stands_in
stands_in_any-returns-then-stands_in t c =
    let here = ap names_star (sym c.key-item.is) ∙ sym c.stands_in.ensures ∙ c.if-stands_in.true in
    sym (ap (λ (keys : List Key). list_any (λ star. star) (map names_star keys)) (sym c.as_slice-key-items.ensures) ∙ one_of names_star c.as_slice-key-items.result.now c.loop-key.key-index c.key-item.result c.loop-key-test.true here)
