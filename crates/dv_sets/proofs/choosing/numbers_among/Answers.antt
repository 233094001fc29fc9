use Rattle.std.proofs.Common.{◌≡◌, ◌∙◌, ◌+◌, ◌<◌, ℕ, List, sym, ap, subst, take, length}
use Rattle.std.proofs.lemmas.List.{take_all}
use Rattle.std.proofs.lemmas.Result.{IfOk-weaker}
use Rattle.dv_model.specs.declared.types.Span.{Span}
use Rattle.dv_model.specs.Sets.{is_in_set}
use Rattle.dv_sets.specs.Intervals.{is_covered, numbers_where}
use Rattle.dv_sets.proofs.Chosen.{chosen}
use Rattle.dv_sets.proofs.Swept.{chosen_where}
use Rattle.dv_sets.proofs.choosing.numbers_among.Goals as goal

pub returns : goal.returns
returns c = λ view same.
    let rows = view.rows in
    let set = c.args.set.now in
    let xs = c.loop-span.intervals.items in
    let count : c.args.count ≡ length rows = sym same in
    let all : take c.loop-span.span-index c.as_slice-span-items.result.now ≡ set =
    take_all c.loop-span.span-index c.as_slice-span-items.result.now c.loop-span-test.false ∙ c.as_slice-span-items.ensures in
    let covered : (k : ℕ) → k < length rows → is_covered xs k ≡ is_in_set (length rows) set (k + 1) =
    λ k less. c.loop-span.invariant.covered k (subst (λ n. k < n) (sym count) less) ∙ ap (λ (s : List Span). is_in_set c.args.count s (k + 1)) all ∙ ap (λ n. is_in_set n set (k + 1)) count in
    let is : chosen (λ row. is_in_set (length rows) set row.0) rows ≡ numbers_where (is_covered xs) (length rows) =
    chosen_where (λ row. is_in_set (length rows) set row.0) (is_covered xs) rows (λ k d less. sym (covered k less)) in
    IfOk-weaker c.numbers_of.result _ _ (λ numbers made. made ∙ ap (numbers_where (is_covered xs)) count ∙ sym is) c.numbers_of.ensures
