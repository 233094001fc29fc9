use Rattle.std.proofs.Common.{◌≡◌, ℕ, ◌+◌, List, Some, true, take, drop, map, refl, ap, sym, ◌∙◌}
use Rattle.std.specs.Char.{to_ascii_lowercase}
use Rattle.std.specs.List.{position}
use Rattle.std.proofs.lemmas.List.{take_rest}
use Rattle.std.proofs.lemmas.Slice.Eq.{bytes_eq-Decides}
use Rattle.dv_model.specs.Fields.{is_colon, is_named, without_end_blanks, without_front_blanks}
use Rattle.dv_fields.proofs.FirstLines.{position-some}
use Rattle.dv_fields.proofs.fields.value_named.Goals as goal

named : (name field : List ℕ) (i : ℕ) → position is_colon field ≡ Some i
    → map to_ascii_lowercase (take i field) ≡ map to_ascii_lowercase name
    → is_named name field ≡ true
named name field i e same =
    let at = position-some is_colon field i e in
    rw (e, at.0) ((bytes_eq-Decides (map to_ascii_lowercase (take i field)) (map to_ascii_lowercase name)).1 same)

pub returns-then-is_same_name : goal.returns-then-is_same_name
returns-then-is_same_name c =
    let field = c.args.field.now in
    let first : position is_colon field ≡ Some c.in-Some.colon = sym c.in-Some.ensures in
    let at = position-some is_colon field c.in-Some.colon first in
    let value = c.trim_end.ensures ∙ ap without_end_blanks (c.trim_front.ensures ∙ ap without_front_blanks (take_rest field (c.in-Some.colon + 1) ∙ ap (λ (k : ℕ). drop (k + 1) field) (sym at.0))) in
    (named c.args.name.now field c.in-Some.colon first (c.if-is_same_name.ensures.0 refl), value)
