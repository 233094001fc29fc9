use Rattle.std.proofs.Common.{◌∙◌, ap, arith, subst, sym, ◌≤◌, ℕ}
use Rattle.dv_openings.specs.Rebuilds.{raised_while}
use Rattle.dv_rebuild.proofs.Plans.{next_some, raised_end, raised_step, raised_stop}
use Rattle.dv_rebuild.proofs.naming.new_indexid.Goals as goal

pub loop-one-init : goal.loop-one-init
loop-one-init c = record { is = ap (raised_while c.args.used.now c.args.used.now) (sym c.max-n.ensures); some = omega (arith, c.max-n.ensures) }

pub loop-one-preserved : goal.loop-one-preserved
loop-one-preserved c =
    let used = c.args.used.now in
    let is = sym c.is_used.ensures ∙ c.if-not-is_used.false in
    record {
      is = c.loop-one.invariant.is ∙ raised_step used c.loop-one._one-index c.loop-one.n c.loop-one-test.true is ∙ ap (raised_while used _) (sym c.next_number-n.ensures);
      some = subst (λ (k : ℕ). 1 ≤ k) (sym c.next_number-n.ensures) (next_some c.loop-one.n);
    }

pub returns-then-not-is_used-clause-is : goal.returns-then-not-is_used-clause-is
returns-then-not-is_used-clause-is c =
    sym (c.loop-one.invariant.is ∙ raised_stop c.args.used.now c.loop-one._one-index c.loop-one.n c.loop-one-test.true (sym c.is_used.ensures ∙ c.if-not-is_used.true))

pub returns-clause-is : goal.returns-clause-is
returns-clause-is c = sym (c.loop-one.invariant.is ∙ raised_end c.args.used.now c.loop-one._one-index c.loop-one.n c.loop-one-test.false)

pub returns-then-not-is_used-clause-some : goal.returns-then-not-is_used-clause-some
returns-then-not-is_used-clause-some c = c.loop-one.invariant.some

pub returns-clause-some : goal.returns-clause-some
returns-clause-some c = c.loop-one.invariant.some
