use Rattle.std.proofs.Common.{◌+◌, ◌≤◌, sym, subst, arith}
use Rattle.std.specs.Prelude.{All, drop}
use Rattle.std.proofs.lemmas.List.Elements.{All-weaker}
use Rattle.dv_model.specs.declared.types.Change.{Change}
use Rattle.dv_ranges.proofs.Apart.{first_of}
use Rattle.dv_ranges.proofs.Flags.{begins, end_later, others_end_later}
use Rattle.dv_ranges.proofs.overlays.skip.Goals as goal

pub returns-then-from-clause-ahead : goal.returns-then-from-clause-ahead
returns-then-from-clause-ahead c =
    let x = c.in-Some.change.now in
    All-weaker (λ (y : Change). x.last ≤ y.last) (λ (y : Change). c.args.from ≤ y.last) (λ y h. omega (arith, c.from.ensures, c.if-from.true)) c.args.changes.now (end_later c.args.changes.now x c.in-Some.ensures.value c.requires.apart)

pub returns-clause-ahead : goal.returns-clause-ahead
returns-clause-ahead c =
    let xs = c.args.changes.now in
    let x = c.in-Some.change.now in
    let near = λ (y : Change). c.args.from ≤ y.last + 1 in
    let low = first_of near x (drop 1 xs) (subst (All near) (begins xs x c.in-Some.ensures.value) c.requires.near) in
    subst (All (λ (y : Change). c.args.from ≤ y.last)) (sym c.split_at.ensures.back)
    (All-weaker (λ (y : Change). x.last + 1 ≤ y.last) (λ (y : Change). c.args.from ≤ y.last) (λ y h. omega arith) (drop 1 xs) (others_end_later xs x c.in-Some.ensures.value c.requires.apart))
