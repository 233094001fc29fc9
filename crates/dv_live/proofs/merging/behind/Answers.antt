use Rattle.std.proofs.Common.{◌≡◌, ◌∙◌, ◌+◌, ap, arith, drop, subst, sym, true}
use Rattle.dv_live.specs.Turning.{RiseFrom, behind, starts_with}
use Rattle.dv_live.proofs.Rising.{behind_first, behind_other, behind_rises, rise_lower, some_first}
use Rattle.dv_live.proofs.merging.behind.Goals as goal

pub returns-then-not-starts_with-clause-is : goal.returns-then-not-starts_with-clause-is
returns-then-not-starts_with-clause-is c = sym (behind_other c.args.uid c.args.uids.now (sym c.starts_with.ensures ∙ c.if-not-starts_with.true))

pub returns-then-not-starts_with-clause-rising : goal.returns-then-not-starts_with-clause-rising
returns-then-not-starts_with-clause-rising c = rise_lower 0 c.args.uid c.args.uids.now (omega arith) c.requires

rest_is : (c : goal.After-rest-1) → c.split_at.result.1.now ≡ behind c.args.uid c.args.uids.now
rest_is c =
    let us = c.args.uids.now in
    let uid = c.args.uid in
    let first : starts_with us uid ≡ true = sym c.starts_with.ensures ∙ c.if-not-starts_with.false in
    let some = some_first uid us first in
    let one : c.min.result ≡ 1 = omega (arith, some, c.min.ensures) in
    c.split_at.ensures.back ∙ ap (λ n. drop n us) one ∙ sym (behind_first uid us first)

pub returns-clause-is : goal.returns-clause-is
returns-clause-is c = rest_is c

pub returns-clause-rising : goal.returns-clause-rising
returns-clause-rising c =
    let uid = c.args.uid in
    let us = c.args.uids.now in
    subst (RiseFrom 0) (sym (rest_is c)) (rise_lower 0 (uid + 1) (behind uid us) (omega arith) (behind_rises uid us c.requires))
