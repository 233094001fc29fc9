use Rattle.std.proofs.Common.{◌≡◌, ◌<◌, [], ◌∷◌, ◌++◌, length, ap, sym, ◌∙◌, arith}
use Rattle.std.specs.Option.{ok_or}
use Rattle.std.proofs.lemmas.Bool.{eqb-false, eqb-true}
use Rattle.std.proofs.lemmas.List.{map_push}
use Rattle.dv_dbox.specs.BoxTexts.{BadMetadata}
use Rattle.dv_dbox.specs.Reading.{texts}
use Rattle.dv_dbox.proofs.Lines.{ends, goes_on, is_done}
use Rattle.dv_dbox.proofs.reading.lines_of.Goals as goal

pub returns-then-is_empty : goal.returns-then-is_empty
returns-then-is_empty c =
    let none : length c.in-Some.line.now ≡ 0 = eqb-true _ _ (sym c.is_empty.ensures ∙ c.if-is_empty.true) in
    ap (λ lines. ok_or lines BadMetadata) (c.loop-line.invariant ∙ is_done (texts c.loop-line.lines.items) c.loop-line.rest.now c.in-Some.line.now c.in-Some.after.now (sym c.in-Some.ensures.value) none)

pub loop-line-preserved : goal.loop-line-preserved
loop-line-preserved c =
    let other = eqb-false _ _ (sym c.is_empty.ensures ∙ c.if-is_empty.false) in
    let some : 0 < length c.in-Some.line.now = omega (arith, other) in
    let lines : texts c.push.new.self.items ≡ texts c.loop-line.lines.items ++ c.in-Some.line.now ∷ [] = rw c.in_ok-push.ensures.items (map_push _ c.loop-line.lines.items c.in-Some.line) in
    rw lines (c.loop-line.invariant ∙ goes_on (texts c.loop-line.lines.items) c.loop-line.rest.now c.in-Some.line.now c.in-Some.after.now (sym c.in-Some.ensures.value) some)

pub returns : goal.returns
returns c = ap (λ lines. ok_or lines BadMetadata) (c.loop-line.invariant ∙ ends (texts c.loop-line.lines.items) c.loop-line.rest.now (sym c.in_default.ensures.value))
