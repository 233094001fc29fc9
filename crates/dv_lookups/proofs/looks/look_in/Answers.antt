use Rattle.std.proofs.Common.{◌≡◌, Some, None, get_or, sym, ◌∙◌, ap}
use Rattle.std.specs.Prelude.{slice_get}
use Rattle.std.specs.Option.{option_and_then, option_copied}
use Rattle.dv_openings.specs.TrueCaches.{look_at}
use Rattle.dv_lookups.proofs.Places.{look_in-nowhere, look_in-there, no_extension}
use Rattle.dv_lookups.proofs.looks.look_in.Goals as goal

pub returns-in_default : goal.returns-in_default
returns-in_default c = sym (look_in-nowhere c.args.extensions.now c.args.parts.now (sym c.place_in.ensures.is ∙ c.in_default.is))

pub returns-in_default-part_at : goal.returns-in_default-part_at
returns-in_default-part_at c =
    let es = c.args.extensions.now in
    let ps = c.args.parts.now in
    let at = c.in-Some.at in
    let none : slice_get ps at ≡ None = sym c.part_at.ensures ∙ ap option_copied c.in_default-part_at.is in
    sym (look_in-there es ps at no_extension (sym c.place_in.ensures.is ∙ c.in-Some.is) ∙ ap (option_and_then (look_at (get_or es at no_extension).reset_id)) none)

pub returns : goal.returns
returns c =
    let es = c.args.extensions.now in
    let ps = c.args.parts.now in
    let at = c.in-Some.at in
    let e = c.index-extensions-at.result in
    let some : slice_get ps at ≡ Some c.in-Some-part_at.part.now = sym c.part_at.ensures ∙ ap option_copied c.in-Some-part_at.is in
    c.look_at.ensures ∙ ap (look_at (get_or es at e).reset_id) c.as_slice.ensures
    ∙ sym (look_in-there es ps at e (sym c.place_in.ensures.is ∙ c.in-Some.is) ∙ ap (option_and_then (look_at (get_or es at e).reset_id)) some)
