use Rattle.std.proofs.Common.{◌≡◌, true, sym, ap, bytes_eq, ◌∙◌, slice_index_or}
use Rattle.dv_model.specs.declared.types.Extension.{Extension}
use Rattle.dv_ext.proofs.Places.{position_at, position_none}
use Rattle.dv_ext.proofs.limits.place_of_name.Goals as goal

pub returns-then-eq : goal.returns-then-eq
returns-then-eq c =
    let e : Extension = c.index-list-place.result in
    let here : bytes_eq (slice_index_or c.args.list.now c.loop-place.place e).name c.args.name.now ≡ true =
    ap (λ (x : Extension). bytes_eq x.name c.args.name.now) (sym c.index-list-place.is) ∙ ap (λ n. bytes_eq n c.args.name.now) (sym c.as_slice.ensures) ∙ sym c.eq.ensures ∙ c.if-eq.true in
    sym (position_at (λ x. bytes_eq x.name c.args.name.now) c.args.list.now c.loop-place.place e c.loop-place-test.true c.loop-place.invariant here)

pub returns : goal.returns
returns c =
    sym (position_none (λ x. bytes_eq x.name c.args.name.now) c.args.list.now c.loop-place.place c.loop-place-test.false c.loop-place.invariant)
