use Rattle.std.proofs.Common.{◌+◌, ◌≤◌, arith}
use Rattle.std.proofs.lemmas.List.Elements.{All-weaker}
use Rattle.dv_model.specs.declared.types.Change.{Change}
use Rattle.dv_ranges.proofs.Flags.{at_first, before_first, end_later, some_uid}
use Rattle.dv_ranges.proofs.overlays.look.Goals as goal

pub returns-then-from-clause-is : goal.returns-then-from-clause-is
returns-then-from-clause-is c = λ uid flags low less.
    before_first c.args.changes.now c.in-Some.change.now c.in-Some.ensures.value c.requires.apart uid flags (omega (arith, c.from-then-from.ensures))

pub returns-then-from-clause-within : goal.returns-then-from-clause-within
returns-then-from-clause-within c =
    let x = c.in-Some.change.now in
    let some = some_uid c.args.changes.now x c.in-Some.ensures.value c.requires.apart in
    All-weaker (λ (y : Change). x.last ≤ y.last) (λ (y : Change). c.from-then-from.result ≤ y.last + 1) (λ y h. omega (arith, some, c.from-then-from.ensures)) c.args.changes.now (end_later c.args.changes.now x c.in-Some.ensures.value c.requires.apart)

pub returns-clause-is : goal.returns-clause-is
returns-clause-is c = λ uid flags low less.
    at_first c.args.changes.now c.in-Some.change.now c.in-Some.ensures.value c.requires.apart uid flags (omega (arith, c.from.ensures, c.if-from.false)) (omega (arith, c.from-2.ensures))

pub returns-clause-within : goal.returns-clause-within
returns-clause-within c =
    let x = c.in-Some.change.now in
    All-weaker (λ (y : Change). x.last ≤ y.last) (λ (y : Change). c.from-2.result + 1 ≤ y.last + 1) (λ y h. omega (arith, c.from-2.ensures)) c.args.changes.now (end_later c.args.changes.now x c.in-Some.ensures.value c.requires.apart)
