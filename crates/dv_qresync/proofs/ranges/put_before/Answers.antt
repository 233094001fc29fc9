use Rattle.std.proofs.Common.{◌≡◌, ◌≤◌, ◌+◌, List, ◌∷◌, ◌++◌, [], ◌∙◌, ap, arith, rules}
use Rattle.dv_model.specs.declared.types.Pair.{Pair}
use Rattle.dv_qresync.proofs.Gathered.{put_apart, put_first, put_joined}
use Rattle.dv_qresync.proofs.ranges.put_before.Goals as goal

pub returns-in_default : goal.returns-in_default
returns-in_default c =
    let some : c.args.range.first ≤ c.args.range.last = omega (arith, c.if-range.false) in
    let none : c.args.ranges.now.items ≡ [] = search rules in
    let left : c.pop.new.self.items ≡ [] = search rules in
    put_first c.args.range c.args.ranges.now.items c.pop.new.self.items c.push.new.self.items some none left c.in_ok-push.ensures.items

pub returns-then-from : goal.returns-then-from
returns-then-from c =
    let some : c.args.range.first ≤ c.args.range.last = omega (arith, c.if-range.false) in
    let joins : c.args.range.last + 1 ≡ c.in-Some.next.first = omega (arith, c.if-from.true) in
    put_joined c.args.range c.in-Some.next c.args.ranges.now.items c.pop.new.self.items c.push-then-from.new.self.items some c.in-Some.ensures.items c.in_ok-push-2.ensures.items joins

pub returns : goal.returns
returns c =
    let some : c.args.range.first ≤ c.args.range.last = omega (arith, c.if-range.false) in
    put_apart c.args.range c.in-Some.next c.args.ranges.now.items c.pop.new.self.items c.push-3.new.self.items some c.in-Some.ensures.items
    (c.in_ok-push-4.ensures.items ∙ ap (λ (ps : List Pair). ps ++ c.args.range ∷ []) c.in_ok-push-3.ensures.items)
    (λ joins. c.if-from.false (omega arith))
