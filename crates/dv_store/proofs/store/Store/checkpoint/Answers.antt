use Rattle.std.proofs.lemmas.Result.{err_from_is_err_and}
use Rattle.dv_writing.proofs.Making.{repair_mails}
use Rattle.dv_store.proofs.Paid.{pays_done, pays_failed, pays_halted, pays_nothing}
use Rattle.dv_shelf.specs.declared.shelf.Name.TheVariants.{Index}
use Rattle.dv_logfile.proofs.Settling.{settled_then}
use Rattle.dv_writing.proofs.Settling.{put_settled}
use Rattle.dv_store.proofs.store.Store.checkpoint.Goals as goal

pub returns-in_err-text-clause-quiet : goal.returns-in_err-text-clause-quiet
returns-in_err-text-clause-quiet g c = λ tells log debt rest.
    let S = g.S.Shelf in
    let p = err_from_is_err_and c.from_residual.result c.from_residual.ensures.1 in
    rw p.1 (pays_nothing S.sees log debt c.args.self.now p.0 (λ f left. g.met.S.Shelf.only_now c.args.self.now.shelf f tells left) rest)

pub returns-in-Err-clause-quiet : goal.returns-in-Err-clause-quiet
returns-in-Err-clause-quiet g c = rw (← c.self.view_is) (λ tells log debt rest.
    let S = g.S.Shelf in
    let mails = repair_mails c.self.inside.owed c.self.inside.chain.log _ (S.sees.files c.self.inside.shelf) (S.sees.files c.repair.new.shelf) (c.in-Err.ensures.files tells) in
    pays_failed _ c.repair.new.turn c.repair.new.chain S.sees log debt rest c.repair.new.shelf mails c.in-Err.field-0 _ c.in-Err.ensures.value (c.in-Err.ensures.quiet tells log debt rest.fits rest.stands))

pub returns-in-Ok-put_snapshot-clause-quiet : goal.returns-in-Ok-put_snapshot-clause-quiet
returns-in-Ok-put_snapshot-clause-quiet g c = rw (← c.self.view_is) (λ tells log debt rest.
    let S = g.S.Shelf in
    let mails = repair_mails c.self.inside.owed c.self.inside.chain.log _ (S.sees.files c.self.inside.shelf) (S.sees.files c.repair.new.shelf) (c.in-Ok.ensures.files tells) in
    let quiet = c.in-Ok.ensures.quiet tells log debt rest.fits rest.stands in
    pays_done _ c.repair.new.turn c.repair.new.chain S.sees log debt rest c.repair.new.shelf mails c.in-Ok.field-0 c.self.invariant c.in-Ok.ensures.value quiet c.put_snapshot.new.shelf (c.put_snapshot.ensures.quiet tells log quiet.ok) (c.put_snapshot.ensures.cache tells) _)

pub returns-clause-quiet : goal.returns-clause-quiet
returns-clause-quiet g c = rw (← c.self.view_is) (λ tells log debt rest.
    let S = g.S.Shelf in
    let mails = repair_mails c.self.inside.owed c.self.inside.chain.log _ (S.sees.files c.self.inside.shelf) (S.sees.files c.repair.new.shelf) (c.in-Ok.ensures.files tells) in
    let quiet = c.in-Ok.ensures.quiet tells log debt rest.fits rest.stands in
    pays_halted _ c.repair.new.turn c.repair.new.chain S.sees log debt rest c.repair.new.shelf mails c.in-Ok.field-0 c.self.invariant c.in-Ok.ensures.value quiet c.put_snapshot.new.shelf (c.put_snapshot.ensures.quiet tells log quiet.ok) (c.put_snapshot.ensures.cache tells) _)

pub returns-in-Ok-put_snapshot-clause-settled : goal.returns-in-Ok-put_snapshot-clause-settled
returns-in-Ok-put_snapshot-clause-settled g c = rw (← c.self.view_is) (λ tells.
    let S = g.S.Shelf in
    let mid = c.repair.new.shelf in
    let new = c.put_snapshot.new.shelf in
    let paid = c.in-Ok.ensures in
    let put = c.in-Ok-put_snapshot.ensures in
    settled_then S.sees c.self.inside.shelf mid new paid.cause.later put.cause.later (paid.settled tells)
    (put_settled S.sees mid new Index c.in_ok-text.text _ put.cause (put.leaves tells)))

pub returns-clause-settled : goal.returns-clause-settled
returns-clause-settled g c = rw (← c.self.view_is) (λ tells.
    let S = g.S.Shelf in
    let mid = c.repair.new.shelf in
    let new = c.put_snapshot.new.shelf in
    let paid = c.in-Ok.ensures in
    let put = c.put_snapshot.ensures in
    settled_then S.sees c.self.inside.shelf mid new paid.cause.later put.cause.later (paid.settled tells)
    (put_settled S.sees mid new Index c.in_ok-text.text _ put.cause (put.leaves tells)))
