use Rattle.std.proofs.Common.{◌≡◌, ◌∙◌, List, ap, length, rules, subst, sym, vec_len, ℕ}
use Rattle.std.specs.List.{AllZip}
use Rattle.dv_model.specs.declared.types.Row.{Row}
use Rattle.dv_model.specs.Effects.{with_row_parts}
use Rattle.dv_ext.specs.Sizes.{fitted, sizes_of}
use Rattle.dv_rows.proofs.PutBack.{written_back, zip_length, zip_weaker}
use Rattle.dv_rows.proofs.parts.fit_by_plan.Goals as goal

pub put_each-requires : goal.put_each-requires
put_each-requires c =
    let many : length c.in_ok-plan.plan.items ≡ vec_len c.in_ok-plan.plan = search rules in
    ap length (c.as_mut_slice.ensures.value ∙ sym c.deref.ensures.value) ∙ zip_length (λ (row : Row) (parts : List (List ℕ)). parts ≡ fitted (sizes_of c.args.extensions.now) row.parts) c.deref.result.now c.in_ok-plan.plan.items c.in_ok-plan.ensures ∙ many

pub returns-clause-ok : goal.returns-clause-ok
returns-clause-ok c =
    let f : Row → Row = with_row_parts (fitted (sizes_of c.args.extensions.now)) in
    let R : Row → List (List ℕ) → Type 0 = λ row parts. record row { parts = parts } ≡ f row in
    let zip : AllZip R c.deref.result.now c.in_ok-plan.plan.items = zip_weaker (λ (row : Row) (parts : List (List ℕ)). parts ≡ fitted (sizes_of c.args.extensions.now) row.parts) R (λ row parts is. ap (λ l. record row { parts = l }) is) c.deref.result.now c.in_ok-plan.plan.items c.in_ok-plan.ensures in
    let here : AllZip R c.as_mut_slice.result.now c.in_ok-plan.plan.items = subst (λ l. AllZip R l c.in_ok-plan.plan.items) (c.deref.ensures.value ∙ sym c.as_mut_slice.ensures.value) zip in
    written_back f c.args.rows.now.items c.as_mut_slice.result.now c.put_each.new.rows c.args.rows.now.len c.as_mut_slice.ensures.value c.as_mut_slice.ensures.len (c.put_each.ensures f here)
