use Rattle.std.proofs.Common.{subst}
use Rattle.dv_store.specs.Paying.{KeepsLog}
use Rattle.dv_writing.proofs.Making.{repair_mails}
use Rattle.dv_store.proofs.Paid.{pays_done, pays_failed, pays_halted}
use Rattle.dv_store.proofs.Swept.{mails_halted, mails_swept, swept_cache, swept_log}
use Rattle.dv_logfile.proofs.Settling.{settled_then}
use Rattle.dv_writing.proofs.Settling.{swept_settled}
use Rattle.dv_store.proofs.store.Store.sweep.Goals.{in-Ok-clear, in-Err-clear}
use Rattle.dv_store.proofs.store.Store.sweep.Goals as goal

pub returns-in-Err-clause-quiet : goal.returns-in-Err-clause-quiet
returns-in-Err-clause-quiet g c = rw (← c.self.view_is) (λ tells log debt rest.
    let S = g.S.Shelf in
    let mails = repair_mails c.self.inside.owed c.self.inside.chain.log _ (S.sees.files c.self.inside.shelf) (S.sees.files c.repair.new.shelf) (c.in-Err.ensures.files tells) in
    pays_failed _ c.repair.new.turn c.repair.new.chain S.sees log debt rest c.repair.new.shelf mails c.in-Err.field-0 _ c.in-Err.ensures.value (c.in-Err.ensures.quiet tells log debt rest.fits rest.stands))

pub returns-clause-mails : goal.returns-clause-mails
returns-clause-mails g c = rw (← c.self.view_is, ← c.as_slice.ensures) (λ tells.
    let S = g.S.Shelf in
    let mails = repair_mails c.self.inside.owed c.self.inside.chain.log _ (S.sees.files c.self.inside.shelf) (S.sees.files c.repair.new.shelf) (c.in-Ok.ensures.files tells) in
    elim c.match-clear.branch [
      | in-Ok-clear w ↦ rw w.result-is (mails_swept c.as_slice.result.now (S.sees.files c.self.inside.shelf) (S.sees.files c.repair.new.shelf) (S.sees.files c.clear.new.shelf) mails _ (w.in-Ok-clear.ensures.leaves tells).seen)
      | in-Err-clear w ↦ rw w.result-is (mails_halted c.as_slice.result.now (S.sees.files c.self.inside.shelf) (S.sees.files c.repair.new.shelf) (S.sees.files c.clear.new.shelf) mails _ (w.in-Err-clear.ensures.leaves tells).seen)
    ])

pub returns-clause-log : goal.returns-clause-log
returns-clause-log g c = rw (← c.self.view_is) (λ tells none.
    let S = g.S.Shelf in
    subst (λ (s : g.row.S.Denot). KeepsLog (S.sees.files s) (S.sees.files c.clear.new.shelf)) (c.in-Ok.ensures.nothing none.turn none.debt).1
    (swept_log c.as_slice.result.now c.clear.result (S.sees.files c.repair.new.shelf) (S.sees.files c.clear.new.shelf) (c.clear.ensures.leaves tells).seen))

pub returns-clause-quiet : goal.returns-clause-quiet
returns-clause-quiet g c = rw (← c.self.view_is) (λ tells log debt rest.
    let S = g.S.Shelf in
    let mails = repair_mails c.self.inside.owed c.self.inside.chain.log _ (S.sees.files c.self.inside.shelf) (S.sees.files c.repair.new.shelf) (c.in-Ok.ensures.files tells) in
    let quiet = c.in-Ok.ensures.quiet tells log debt rest.fits rest.stands in
    let second = c.clear.ensures.quiet tells log quiet.ok in
    let cache = swept_cache c.as_slice.result.now c.clear.result (S.sees.files c.repair.new.shelf) (S.sees.files c.clear.new.shelf) (c.clear.ensures.leaves tells).seen in
    elim c.match-clear.branch [
      | in-Ok-clear w ↦ rw w.result-is (pays_done _ c.repair.new.turn c.repair.new.chain S.sees log debt rest c.repair.new.shelf mails c.in-Ok.field-0 c.self.invariant c.in-Ok.ensures.value quiet c.clear.new.shelf second cache _)
      | in-Err-clear w ↦ rw w.result-is (pays_halted _ c.repair.new.turn c.repair.new.chain S.sees log debt rest c.repair.new.shelf mails c.in-Ok.field-0 c.self.invariant c.in-Ok.ensures.value quiet c.clear.new.shelf second cache _)
    ])

pub returns-clause-settled : goal.returns-clause-settled
returns-clause-settled g c = rw (← c.self.view_is) (λ tells.
    let S = g.S.Shelf in
    let mid = c.repair.new.shelf in
    let new = c.clear.new.shelf in
    let paid = c.in-Ok.ensures in
    settled_then S.sees c.self.inside.shelf mid new paid.cause.later c.clear.ensures.cause.later (paid.settled tells)
    (swept_settled S.sees mid new c.as_slice.result.now c.clear.result c.clear.ensures.cause (c.clear.ensures.leaves tells)))
