use Rattle.dv_logfile.proofs.Heals.{nothing_read, healing_failed, healed}
use Rattle.dv_logfile.proofs.Settling.{rose_settled, synced_settled}
use Rattle.dv_logfile.proofs.commit.LogFile.heal.Goals as goal

-- ---- nothing is owed

pub returns-in-None-clause-reading : goal.returns-in-None-clause-reading
returns-in-None-clause-reading g c = λ text group tells rest.
    nothing_read text group c.args.self.now c.args.shelf.now c.in-None.is rest (λ f left. g.met.S.Shelf.only_now c.args.shelf.now f tells left)

-- ---- the write or its sync failed

pub returns-in_err-write_synced-in-Gate-clause-reading : goal.returns-in_err-write_synced-in-Gate-clause-reading
returns-in_err-write_synced-in-Gate-clause-reading g c = λ text group tells rest.
    healing_failed text group c.args.self.now c.in-Gate.is rest _ (c.in_err-write_synced-in-Gate.ensures.writes tells) c.from_residual.ensures.0

-- ---- both were done

pub returns-in_ok-write_synced-in-Gate-clause-reading : goal.returns-in_ok-write_synced-in-Gate-clause-reading
returns-in_ok-write_synced-in-Gate-clause-reading g c = λ text group tells rest.
    healed text group c.args.self.now c.in-Gate.is rest (c.in_ok-write_synced-in-Gate.ensures.writes tells)

-- ---- a settled shelf stays so

pub returns-in_err-write_synced-in-Gate-clause-settled : goal.returns-in_err-write_synced-in-Gate-clause-settled
returns-in_err-write_synced-in-Gate-clause-settled g c = λ tells.
    rose_settled g.S.Shelf.sees c.args.shelf.now c.write_synced.new.shelf c.in_err-write_synced-in-Gate.ensures.cause.rose

pub returns-in_ok-write_synced-in-Gate-clause-settled : goal.returns-in_ok-write_synced-in-Gate-clause-settled
returns-in_ok-write_synced-in-Gate-clause-settled g c = λ tells.
    let done = c.in_ok-write_synced-in-Gate.ensures in
    synced_settled g.S.Shelf.sees _ _ _ c.args.shelf.now c.write_synced.new.shelf done.cause (done.writes tells)
