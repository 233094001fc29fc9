use Rattle.std.proofs.Common.{◌≡◌, ◌∙◌, ℕ, List, sym, ap, take, length, get_or}
use Rattle.std.specs.Prelude.{fold, max}
use Rattle.std.proofs.lemmas.List.{take_all}
use Rattle.std.proofs.lemmas.Result.{IfOk-weaker}
use Rattle.dv_model.specs.declared.types.Shown.{Shown}
use Rattle.dv_model.specs.declared.types.Span.{Span}
use Rattle.dv_model.specs.Sets.{is_in_set}
use Rattle.dv_sets.specs.Intervals.{is_covered, numbers_where}
use Rattle.dv_sets.proofs.Chosen.{chosen}
use Rattle.dv_sets.proofs.Swept.{chosen_where}
use Rattle.dv_sets.proofs.choosing.uids.Goals as goal

pub returns : goal.returns
returns c = λ view same.
    let rows = c.as_slice-rows.result.now in
    let set = c.args.set.now in
    let star = c.largest_uid-star.result in
    let xs = c.loop-span.intervals.items in
    let all : take c.loop-span.span-index c.as_slice-span-items.result.now ≡ set =
    take_all c.loop-span.span-index c.as_slice-span-items.result.now c.loop-span-test.false ∙ c.as_slice-span-items.ensures in
    let is : chosen (λ row. is_in_set star set row.1.uid) rows ≡ numbers_where (is_covered xs) (length rows) =
    chosen_where (λ row. is_in_set star set row.1.uid) (is_covered xs) rows
    (λ k d less. sym (c.loop-span.invariant.covered k d less ∙ ap (λ (s : List Span). is_in_set star s (get_or rows k d).uid) all)) in
    let star-is : chosen (λ row. is_in_set star set row.1.uid) rows ≡ chosen (λ row. is_in_set (fold (λ n s. max n s.uid) 0 rows) set row.1.uid) rows =
    ap (λ (n : ℕ). chosen (λ row. is_in_set n set row.1.uid) rows) c.largest_uid-star.ensures in
    let there : rows ≡ view.rows = c.as_slice-rows.ensures ∙ sym same in
    IfOk-weaker c.numbers_of.result _ _
    (λ numbers made. made ∙ sym is ∙ star-is ∙ ap (λ (rs : List Shown). chosen (λ row. is_in_set (fold (λ n s. max n s.uid) 0 rs) set row.1.uid) rs) there)
    c.numbers_of.ensures
