use Rattle.std.proofs.Common.{◌≡◌, ◌∷◌, true, false, ap, sym, ◌∙◌, arith}
use Rattle.std.specs.Str.Lines.{lines}
use Rattle.dv_model.specs.Fields.{folded_onto, header_lines, is_continuation, unfolded}
use Rattle.dv_fields.proofs.FirstLines.{line_opens}
use Rattle.dv_fields.proofs.Folds.{continuation_has_bytes, header_more, header_opens, onto_more, onto_none}
use Rattle.dv_lookups.proofs.lines.split_field.Goals as goal

pub loop-rest-preserved : goal.loop-rest-preserved
loop-rest-preserved c =
    let field = c.loop-rest.field.items in
    let rest = c.loop-rest.rest.now in
    let more = c.split_line-in-loop-rest.result.0.now in
    let after = c.split_line-in-loop-rest.result.1.now in
    let goes_on : is_continuation rest ≡ true = sym c.continues.ensures ∙ c.loop-rest-test.true in
    let some = continuation_has_bytes rest goes_on in
    let first : lines rest ≡ more ∷ lines after = c.split_line-in-loop-rest.ensures.first some in
    let onto : is_continuation more ≡ true = line_opens rest more (lines after) first ∙ goes_on in
    let header = header_more rest more after first (continuation_has_bytes more onto) in
    let whole = c.loop-rest.invariant.0 ∙ ap (λ hs. folded_onto field (unfolded hs)) header ∙ onto_more field more (unfolded (header_lines after)) onto in
    (rw c.in_ok-extend_from_slice.ensures.items whole, omega (arith, c.split_line-in-loop-rest.ensures.shorter some, c.loop-rest.invariant.1))

pub returns : goal.returns
returns c =
    let rest = c.loop-rest.rest.now in
    let stops : is_continuation rest ≡ false = sym c.continues.ensures ∙ c.loop-rest-test.false in
    (c.loop-rest.invariant.0 ∙ onto_none c.loop-rest.field.items (header_lines rest) (λ line others e. let opens = header_opens rest line others e in (opens.0, opens.1 ∙ stops)), c.loop-rest.invariant.1)
