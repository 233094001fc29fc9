use Rattle.std.proofs.Common.{◌≡◌, ◌∙◌, ◌-◌, [], None, Some, Ok, Err, sym, ap, subst, arith}
use Rattle.std.proofs.lemmas.Result.{err_from_is_err_and}
use Rattle.dv_logfile.proofs.Settling.{settled_then}
use Rattle.dv_model.specs.declared.types.Mailbox.{Mailbox}
use Rattle.dv_chain.specs.declared.chain.Chain.{Chain}
use Rattle.dv_mdbox.specs.Answers.{IsFailure}
use Rattle.dv_mdbox.specs.Purging.{AllNamed, IsNamed, TakesSome}
use Rattle.dv_mdbox.proofs.Purged.{is_purged, purged_rows, shown_still}
use Rattle.dv_mdbox.proofs.Stepping.{map_err, map_failed, map_then, to_looked}
use Rattle.dv_mdbox.proofs.Thinning.{quiet_err, quiet_ok, quiet_then, takes_none}
use Rattle.dv_mdbox.proofs.storage.Storage.purge.Goals as goal

-- ---- the repair failed

pub returns-in_err-settle-clause-value : goal.returns-in_err-settle-clause-value
returns-in_err-settle-clause-value g c =
    let p = err_from_is_err_and c.from_residual.result c.from_residual.ensures.1 in
    rw p.1 (map_failed None c.args.self.now c.settle.new.self (c.in_err-settle.ensures.value None) p.0 (subst IsFailure (sym p.2) c.in_err-settle.ensures.err))

pub returns-in_err-settle-clause-exact : goal.returns-in_err-settle-clause-exact
returns-in_err-settle-clause-exact g c = λ tells messages debt rest.
    let known = Some (g.S.Shelf.sees.files c.args.self.now.shelf) in
    let p = err_from_is_err_and c.from_residual.result c.from_residual.ensures.1 in
    rw p.1 (map_failed known c.args.self.now c.settle.new.self (c.in_err-settle.ensures.value known) p.0 (subst IsFailure (sym p.2) c.in_err-settle.ensures.err))

pub returns-in_err-settle-clause-gives : goal.returns-in_err-settle-clause-gives
returns-in_err-settle-clause-gives g c = λ tells messages debt rest.
    let p = err_from_is_err_and c.from_residual.result c.from_residual.ensures.1 in
    rw p.1 (quiet_err g.S.Shelf.sees messages debt c.args.self.now c.settle.new.self _ p.0 (c.in_err-settle.ensures.gives tells messages debt rest))

pub returns-in_err-settle-clause-clock : goal.returns-in_err-settle-clause-clock
returns-in_err-settle-clause-clock g c = λ tells. subst (λ clock. TakesSome (g.C.Clock.sees.upcoming c.args.self.now.clock) (g.C.Clock.sees.upcoming clock)) (sym c.in_err-settle.ensures.clock) (takes_none (g.C.Clock.sees.upcoming c.args.self.now.clock))

-- ---- the removal of files failed

pub returns-in_err-clear_orphans-clause-value : goal.returns-in_err-clear_orphans-clause-value
returns-in_err-clear_orphans-clause-value g c =
    let p = err_from_is_err_and c.from_residual-in_err-clear_orphans.result c.from_residual-in_err-clear_orphans.ensures.1 in
    let begun = to_looked None [] 0 0 c.args.self.now c.settle.new.self c.clear_orphans.new.self (c.in_ok-settle.ensures.value None) c.in_err-clear_orphans.ensures.stays in
    rw p.1 (map_failed None c.args.self.now c.clear_orphans.new.self begun p.0 (subst IsFailure (sym p.2) c.in_err-clear_orphans.ensures.err))

pub returns-in_err-clear_orphans-clause-exact : goal.returns-in_err-clear_orphans-clause-exact
returns-in_err-clear_orphans-clause-exact g c = λ tells messages debt rest.
    let known = Some (g.S.Shelf.sees.files c.args.self.now.shelf) in
    let p = err_from_is_err_and c.from_residual-in_err-clear_orphans.result c.from_residual-in_err-clear_orphans.ensures.1 in
    let begun = to_looked known [] 0 0 c.args.self.now c.settle.new.self c.clear_orphans.new.self (c.in_ok-settle.ensures.value known) c.in_err-clear_orphans.ensures.stays in
    rw p.1 (map_failed known c.args.self.now c.clear_orphans.new.self begun p.0 (subst IsFailure (sym p.2) c.in_err-clear_orphans.ensures.err))

pub returns-in_err-clear_orphans-clause-gives : goal.returns-in_err-clear_orphans-clause-gives
returns-in_err-clear_orphans-clause-gives g c = λ tells messages debt rest.
    let S = g.S.Shelf in
    let one = c.in_ok-settle.ensures.gives tells messages debt rest in
    let p = err_from_is_err_and c.from_residual-in_err-clear_orphans.result c.from_residual-in_err-clear_orphans.ensures.1 in
    rw p.1
    (quiet_err S.sees messages debt c.args.self.now c.clear_orphans.new.self _ p.0
    (quiet_then S.sees messages c.thinnings_are.ensures debt c.args.self.now c.settle.new.self c.clear_orphans.new.self tt one (c.in_ok-settle.ensures.value None).indexid (Err _) (c.in_err-clear_orphans.ensures.gives tells messages one.ok)))

pub returns-in_err-clear_orphans-clause-settled : goal.returns-in_err-clear_orphans-clause-settled
returns-in_err-clear_orphans-clause-settled g c = λ tells.
    settled_then g.S.Shelf.sees c.args.self.now.shelf c.settle.new.self.shelf c.clear_orphans.new.self.shelf c.in_ok-settle.ensures.cause.later c.in_err-clear_orphans.ensures.cause.later (c.in_ok-settle.ensures.settled tells) (c.in_err-clear_orphans.ensures.settled tells)

pub returns-in_err-clear_orphans-clause-clock : goal.returns-in_err-clear_orphans-clause-clock
returns-in_err-clear_orphans-clause-clock g c = λ tells. subst (λ clock. TakesSome (g.C.Clock.sees.upcoming c.args.self.now.clock) (g.C.Clock.sees.upcoming clock)) (sym (c.in_err-clear_orphans.ensures.stays.clock ∙ c.in_ok-settle.ensures.clock)) (takes_none (g.C.Clock.sees.upcoming c.args.self.now.clock))

-- ---- a file failed

pub returns-in_err-take_files-clause-value : goal.returns-in_err-take_files-clause-value
returns-in_err-take_files-clause-value g c =
    let p = err_from_is_err_and c.from_residual-in_err-take_files.result c.from_residual-in_err-take_files.ensures.1 in
    let begun = to_looked None [] 0 0 c.args.self.now c.settle.new.self c.clear_orphans.new.self (c.in_ok-settle.ensures.value None) c.in_ok-clear_orphans.ensures.stays in
    rw p.1 (map_err None c.args.self.now c.take_files.new.self _ p.0 p.2 (map_then None c.args.self.now c.clear_orphans.new.self c.take_files.new.self begun {T = Unit {0}} (Err _) (c.in_err-take_files.ensures.value None tt)))

pub returns-in_err-take_files-clause-exact : goal.returns-in_err-take_files-clause-exact
returns-in_err-take_files-clause-exact g c = λ tells messages debt rest.
    let S = g.S.Shelf in
    let old = c.args.self.now in
    let known = Some (S.sees.files old.shelf) in
    let one = c.in_ok-settle.ensures in
    let two = c.in_ok-clear_orphans.ensures in
    let p = err_from_is_err_and c.from_residual-in_err-take_files.result c.from_residual-in_err-take_files.ensures.1 in
    let begun = to_looked known [] 0 0 old c.settle.new.self c.clear_orphans.new.self (one.value known) two.stays in
    let standing = two.gives tells messages (one.gives tells messages debt rest).ok in
    let shown = shown_still S.sees (S.sees.files old.shelf) c.settle.new.self c.clear_orphans.new.self (one.files tells) (two.kept tells) two.stays in
    rw p.1
    (map_err known old c.take_files.new.self _ p.0 p.2
    (map_then known old c.clear_orphans.new.self c.take_files.new.self begun {T = Unit {0}} (Err _) (c.in_err-take_files.ensures.value known (tells, (messages, standing.ok), shown))))

pub returns-in_err-take_files-clause-gives : goal.returns-in_err-take_files-clause-gives
returns-in_err-take_files-clause-gives g c = λ tells messages debt rest.
    let S = g.S.Shelf in
    let laws = c.thinnings_are.ensures in
    let old = c.args.self.now in
    let one = c.in_ok-settle.ensures.gives tells messages debt rest in
    let two = c.in_ok-clear_orphans.ensures.gives tells messages one.ok in
    let id = (c.in_ok-settle.ensures.value None).indexid in
    let both = quiet_then S.sees messages laws debt old c.settle.new.self c.clear_orphans.new.self tt one id (Ok tt) two in
    let same = ap (λ (k : Chain). k.indexid) c.in_ok-clear_orphans.ensures.stays.chain ∙ id in
    let p = err_from_is_err_and c.from_residual-in_err-take_files.result c.from_residual-in_err-take_files.ensures.1 in
    rw p.1
    (quiet_err S.sees messages debt old c.take_files.new.self _ p.0
    (quiet_then S.sees messages laws debt old c.clear_orphans.new.self c.take_files.new.self tt both same (Err _) (c.in_err-take_files.ensures.gives tells messages two.ok)))

pub returns-in_err-take_files-clause-settled : goal.returns-in_err-take_files-clause-settled
returns-in_err-take_files-clause-settled g c = λ tells.
    let S = g.S.Shelf in
    let one = c.in_ok-settle.ensures in
    let two = c.in_ok-clear_orphans.ensures in
    let three = c.in_err-take_files.ensures in
    settled_then S.sees c.args.self.now.shelf c.settle.new.self.shelf c.take_files.new.self.shelf one.cause.later (let a = two.cause.later in let b = three.cause.later in omega (arith, a, b)) (one.settled tells)
    (settled_then S.sees c.settle.new.self.shelf c.clear_orphans.new.self.shelf c.take_files.new.self.shelf two.cause.later three.cause.later (two.settled tells) (three.settled tells))

pub returns-in_err-take_files-clause-clock : goal.returns-in_err-take_files-clause-clock
returns-in_err-take_files-clause-clock g c = λ tells. subst (λ clock. TakesSome (g.C.Clock.sees.upcoming clock) (g.C.Clock.sees.upcoming c.take_files.new.self.clock)) (c.in_ok-clear_orphans.ensures.stays.clock ∙ c.in_ok-settle.ensures.clock) (c.in_err-take_files.ensures.clock tells)

-- ---- all is done

pub returns-clause-value : goal.returns-clause-value
returns-clause-value g c =
    let begun = to_looked None [] 0 0 c.args.self.now c.settle.new.self c.clear_orphans.new.self (c.in_ok-settle.ensures.value None) c.in_ok-clear_orphans.ensures.stays in
    map_then None c.args.self.now c.clear_orphans.new.self c.take_files.new.self begun {T = Unit {0}} (Ok (tt {0})) (c.in_ok-take_files.ensures.value None tt)

pub returns-clause-exact : goal.returns-clause-exact
returns-clause-exact g c = λ tells messages debt rest.
    let S = g.S.Shelf in
    let old = c.args.self.now in
    let known = Some (S.sees.files old.shelf) in
    let one = c.in_ok-settle.ensures in
    let two = c.in_ok-clear_orphans.ensures in
    let begun = to_looked known [] 0 0 old c.settle.new.self c.clear_orphans.new.self (one.value known) two.stays in
    let standing = two.gives tells messages (one.gives tells messages debt rest).ok in
    let shown = shown_still S.sees (S.sees.files old.shelf) c.settle.new.self c.clear_orphans.new.self (one.files tells) (two.kept tells) two.stays in
    map_then known old c.clear_orphans.new.self c.take_files.new.self begun {T = Unit {0}} (Ok (tt {0})) (c.in_ok-take_files.ensures.value known (tells, (messages, standing.ok), shown))

pub returns-clause-purged : goal.returns-clause-purged
returns-clause-purged g c = λ tells messages debt rest.
    let S = g.S.Shelf in
    let old = c.args.self.now in
    let mid = c.clear_orphans.new.self in
    let new = c.take_files.new.self in
    let known = Some (S.sees.files old.shelf) in
    let one = c.in_ok-settle.ensures in
    let two = c.in_ok-clear_orphans.ensures in
    let begun = to_looked known [] 0 0 old c.settle.new.self mid (one.value known) two.stays in
    let standing = two.gives tells messages (one.gives tells messages debt rest).ok in
    let shown = shown_still S.sees (S.sees.files old.shelf) c.settle.new.self mid (one.files tells) (two.kept tells) two.stays in
    let walk = map_then known old mid new begun {T = Unit {0}} (Ok (tt {0})) (c.in_ok-take_files.ensures.value known (tells, (messages, standing.ok), shown)) in
    let m = old.chain.live.mailbox in
    let on : mid.chain.live.mailbox ≡ m = begun.goes.2 in
    let named = subst (λ (k : Chain). AllNamed (S.sees.files mid.shelf) k.live.mailbox) (sym two.stays.chain) (two.named tells) in
    let cleared = c.in_ok-take_files.ensures.clears tells messages standing.ok named in
    let kept = c.in_ok-take_files.ensures.kept tells messages standing.ok in
    is_purged (S.sees.files old.shelf) (S.sees.files new.shelf) m new.chain.live.mailbox
    (purged_rows (S.sees.files old.shelf) m new.chain.live.mailbox walk.0 walk.2.groups walk.1 rest.map walk.2.goes walk.3) c.saturating_sub.result (c.saturating_sub.ensures ∙ (λ i. c.count-before.ensures i - c.count.ensures i)) cleared.named
    (λ f before behind. kept f (subst (λ (n : Mailbox). IsNamed n f) (sym on) before) behind ∙ shown f (subst (λ (n : Mailbox). IsNamed n f) (sym on) before))

pub returns-clause-gives : goal.returns-clause-gives
returns-clause-gives g c = λ tells messages debt rest.
    let S = g.S.Shelf in
    let laws = c.thinnings_are.ensures in
    let old = c.args.self.now in
    let one = c.in_ok-settle.ensures.gives tells messages debt rest in
    let two = c.in_ok-clear_orphans.ensures.gives tells messages one.ok in
    let id = (c.in_ok-settle.ensures.value None).indexid in
    let both = quiet_then S.sees messages laws debt old c.settle.new.self c.clear_orphans.new.self tt one id (Ok tt) two in
    let same = ap (λ (k : Chain). k.indexid) c.in_ok-clear_orphans.ensures.stays.chain ∙ id in
    quiet_ok S.sees messages debt old c.take_files.new.self tt _
    (quiet_then S.sees messages laws debt old c.clear_orphans.new.self c.take_files.new.self tt both same (Ok tt) (c.in_ok-take_files.ensures.gives tells messages two.ok))

pub returns-clause-clears : goal.returns-clause-clears
returns-clause-clears g c = λ tells messages debt rest.
    let S = g.S.Shelf in
    let one = c.in_ok-settle.ensures.gives tells messages debt rest in
    let two = c.in_ok-clear_orphans.ensures.gives tells messages one.ok in
    let mid = c.clear_orphans.new.self in
    let named = subst (λ (k : Chain). AllNamed (S.sees.files mid.shelf) k.live.mailbox) (sym c.in_ok-clear_orphans.ensures.stays.chain) (c.in_ok-clear_orphans.ensures.named tells) in
    c.in_ok-take_files.ensures.clears tells messages two.ok named

pub returns-clause-settled : goal.returns-clause-settled
returns-clause-settled g c = λ tells.
    let S = g.S.Shelf in
    let one = c.in_ok-settle.ensures in
    let two = c.in_ok-clear_orphans.ensures in
    let three = c.in_ok-take_files.ensures in
    settled_then S.sees c.args.self.now.shelf c.settle.new.self.shelf c.take_files.new.self.shelf one.cause.later (let a = two.cause.later in let b = three.cause.later in omega (arith, a, b)) (one.settled tells)
    (settled_then S.sees c.settle.new.self.shelf c.clear_orphans.new.self.shelf c.take_files.new.self.shelf two.cause.later three.cause.later (two.settled tells) (three.settled tells))

pub returns-clause-clock : goal.returns-clause-clock
returns-clause-clock g c = λ tells. subst (λ clock. TakesSome (g.C.Clock.sees.upcoming clock) (g.C.Clock.sees.upcoming c.take_files.new.self.clock)) (c.in_ok-clear_orphans.ensures.stays.clock ∙ c.in_ok-settle.ensures.clock) (c.in_ok-take_files.ensures.clock tells)
