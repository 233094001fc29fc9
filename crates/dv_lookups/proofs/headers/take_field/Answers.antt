use Rattle.std.proofs.Common.{◌≡◌, ◌&&◌, None, false, sym, ◌∙◌, ap}
use Rattle.std.specs.Prelude.{bytes_eq, is_some, position}
use Rattle.std.specs.Str.{str_to_ascii_lowercase}
use Rattle.dv_model.specs.Fields.{field_name, is_colon, is_named}
use Rattle.dv_lookups.proofs.Fielded.{told_other}
use Rattle.dv_lookups.proofs.headers.take_field.Goals as goal

pub returns-in_default : goal.returns-in_default
returns-in_default c = λ fields more name told.
    let field = c.args.field.now in
    let none : position is_colon field ≡ None = sym c.byte_place.ensures ∙ c.in_default.is in
    let other : is_named name field ≡ false = ap (λ o. is_some o && bytes_eq (str_to_ascii_lowercase (field_name field)) (str_to_ascii_lowercase name)) none in
    told_other fields more field name c.args.missing.now c.args.values.now other told
