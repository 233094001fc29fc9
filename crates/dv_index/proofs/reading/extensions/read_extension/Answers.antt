use Rattle.std.proofs.Common.{◌≡◌, ◌∙◌, ◌++◌, length, take, drop, ap, arith, refl, sym}
use Rattle.std.specs.Int.{w16, from_le_bytes}
use Rattle.dv_model.specs.declared.types.Extension.{Extension}
use Rattle.dv_formats.specs.Snapshots.{filled}
use Rattle.dv_index.proofs.Extensions.{HasExtension, header_next, text_header, text_is}
use Rattle.dv_index.proofs.reading.extensions.read_extension.Goals as goal

pub returns-in_default-split_filled-clause-check :
    goal.returns-in_default-split_filled-clause-check
returns-in_default-split_filled-clause-check c =
    let size : length c.in-Some.name.now ≡ from_le_bytes w16 (take 2 (drop 14 c.args.b.now)) = omega (arith, c.in-Some.ensures.some.0, c.from.ensures, c.u16_at.ensures) in
    rw c.failed-in_default-split_filled.ensures (
      refl,
      λ e rest is text.
          c.in_default-split_filled.ensures.none e.header rest (text_header e c.args.b.now rest is text ∙ sym c.u32_at.ensures)
          (header_next e c.args.b.now c.in-Some.name.now c.in-Some.behind.now rest is text size (sym c.split_at.ensures.back ∙ c.in-Some.ensures.some.1)),
    )

pub returns-clause-found : goal.returns-clause-found
returns-clause-found c =
    let e : Extension = record { name = c.in_ok-from_slice.field-0; reset_id = c.u32_at-2.result; header = c.in_ok-from_slice-2.field-0; record_size = c.u16_at-2.result; record_align = c.u16_at-3.result; flags = c.u16_at-4.result } in
    let name = c.in_ok-from_slice.ensures in
    let header = c.in_ok-from_slice-2.ensures in
    let has : HasExtension e c.args.b.now = record {
      reset_id = c.u32_at-2.ensures;
      header = ap length header ∙ c.in-Some-split_filled.ensures.some.0 ∙ c.u32_at.ensures;
      record_size = c.u16_at-2.ensures;
      record_align = c.u16_at-3.ensures;
      flags = c.u16_at-4.ensures;
      name = ap length name ∙ omega (arith, c.in-Some.ensures.some.0, c.from.ensures, c.u16_at.ensures);
    } in
    text_is e c.args.b.now c.in-Some.behind.now c.in-Some-split_filled.rest.now (λ i. let fits = c.type_inv.b i in omega (arith, fits)) (omega arith) has
    (sym c.split_at.ensures.back ∙ c.in-Some.ensures.some.1 ∙ ap (λ t. filled t ++ c.in-Some.behind.now) (sym name)) (c.in-Some-split_filled.ensures.some.1 ∙ ap (λ t. filled t ++ c.in-Some-split_filled.rest.now) (sym header))
