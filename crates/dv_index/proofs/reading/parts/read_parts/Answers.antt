use Rattle.std.proofs.Common.{◌≡◌, [], ◌∷◌, ◌++◌, ◌∙◌, ap, length, arith, refl}
use Rattle.dv_index.proofs.Parts.{no_part, parts_more}
use Rattle.dv_index.proofs.reading.parts.read_parts.Goals as goal

pub returns-in_default-clause-check : goal.returns-in_default-clause-check
returns-in_default-clause-check c =
    rw c.failed.ensures (
      refl,
      λ parts are. no_part c.args.es.now c.loop-e.e-index c.e-item.result c.loop-e.parts c.loop-e.rest.now c.args.b.now c.loop-e-test.true c.e-item.is c.loop-e.invariant
          (λ text behind size here. c.in_default.ensures.none text behind (omega (arith, size, c.from.ensures)) here) parts are,
    )

pub loop-e-preserved : goal.loop-e-preserved
loop-e-preserved c =
    let size : length c.in-Some.part.now ≡ c.e-item.result.record_size = omega (arith, c.in-Some.ensures.some.0, c.from.ensures) in
    let pushed = c.in_ok-push.ensures.ok ∙ ap (λ p. c.loop-e.parts ++ p ∷ []) c.in_ok-from_slice.ensures in
    parts_more c.args.es.now c.loop-e.e-index c.e-item.result c.loop-e.parts c.push.new.self c.in-Some.part.now c.loop-e.rest.now c.in-Some.behind.now c.args.b.now c.loop-e-test.true c.e-item.is c.loop-e.invariant size c.in-Some.ensures.some.1 pushed
