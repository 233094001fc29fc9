use Rattle.std.proofs.lemmas.Result.{err_from_is_err_and}
use Rattle.dv_openings.specs.Openings.{joining}
use Rattle.dv_chain.specs.Files.{good_file}
use Rattle.dv_chain.proofs.Found.{joined_end, joined_fault}
use Rattle.dv_chain.proofs.Shelves.{cause_still}
use Rattle.dv_chain.proofs.opening.find.Goals as goal

pub returns-in_err-live-clause-err : goal.returns-in_err-live-clause-err
returns-in_err-live-clause-err g c = λ tells.
    let p = err_from_is_err_and c.from_residual-in_err-live.result c.from_residual-in_err-live.ensures.1 in
    let files = c.in_ok-log.field-0 in
    let are = c.in_ok-log.ensures.ok tells in
    rw (p.1, p.2)
    (joined_fault (g.S.Shelf.sees.files c.args.shelf.now) files are c.in_err-live.field-0.0
    (c.in_err-live.ensures.given are.log.spots (joining (good_file files.log are.log.spots) are.rotated.scan) are.log.has (are.rotated.is are.log.spots)))

pub returns-in_err-live-clause-cause : goal.returns-in_err-live-clause-cause
returns-in_err-live-clause-cause g c =
    let p = err_from_is_err_and c.from_residual-in_err-live.result c.from_residual-in_err-live.ensures.1 in
    rw (p.1, p.2)
    (cause_still (g.S.Shelf.sees.fault_count c.args.shelf.now) (g.S.Shelf.sees.fault_count c.read_files.new.shelf) c.read_files.result _ c.read_files.ensures.cause c.in_err-live.ensures.disk)

pub returns-clause-ok : goal.returns-clause-ok
returns-clause-ok g c = λ tells.
    let files = c.in_ok-log.field-0 in
    let are = c.in_ok-log.ensures.ok tells in
    joined_end (g.S.Shelf.sees.files c.args.shelf.now) files are c.in_ok-live.live
    (c.in_ok-live.ensures.given are.log.spots (joining (good_file files.log are.log.spots) are.rotated.scan) are.log.has (are.rotated.is are.log.spots))
