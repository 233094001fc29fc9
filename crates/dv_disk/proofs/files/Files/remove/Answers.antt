use Rattle.std.proofs.Common.{None, Ok, false, inl, refl}
use Rattle.dv_shelf.specs.Disks.{Gone}
use Rattle.dv_system.specs.Entries.{put_at}
use Rattle.dv_disk.proofs.Runs.{puts_behind, puts_nothing, quiet_on, quiet_same}
use Rattle.dv_disk.proofs.Putting.{gone_only, put_failed, put_swept, puts}
use Rattle.dv_disk.proofs.Calls.{changed_at, not_there, only_is, passed, same_at, same_place, swept_there, unlink_failed, unlinked, unlinked_names, unsure_there}
use Rattle.dv_disk.proofs.files.Files.remove.Goals as goal

pub returns-in_err-start : goal.returns-in_err-start
returns-in_err-start g c = λ tells.
    let Y = g.Y.System in
    puts_nothing Y.moment Y.left_since Y.disk g.met.Y.System.counts_now c.args.self.now.system c.start.new.self.system c.args.name None c.from_residual.result
    (passed c.from_residual.result _ c.from_residual.ensures.1) (c.start.ensures.quiet tells)

pub returns-in_err-unlink : goal.returns-in_err-unlink
returns-in_err-unlink g c = λ tells.
    let Y = g.Y.System in
    let now = g.met.Y.System.counts_now in
    let held = c.start.new.self.held c.in_ok-start.ensures.locked in
    let mid = c.start.new.self.system in
    let r = c.from_residual-in_err-unlink.result in
    puts_behind Y.moment Y.left_since Y.disk now c.args.self.now.system mid c.unlink.new.self c.args.name None r (c.start.ensures.quiet tells)
    (put_failed Y.disk Y.moment Y.left_since now c.args.name None mid (c.start.new.self.ready c.in_ok-start.ensures.ready tells) (g.met.Y.System.readable mid tells)
    r c.unlink.new.self false (passed r _ c.from_residual-in_err-unlink.ensures.1)
    (unlink_failed (Y.disk mid) _ c.args.name (c.in_err-unlink.ensures.err tells held)) (c.unlink.ensures.time tells held))

pub returns-then-branch : goal.returns-then-branch
returns-then-branch g c = λ tells.
    let Y = g.Y.System in
    let now = g.met.Y.System.counts_now in
    let held = c.start.new.self.held c.in_ok-start.ensures.locked in
    let old = c.start.new.self.system in
    let mid = c.unlink.new.self in
    let new = c.sweep.new.self.system in
    let n = c.args.name in
    let at = put_at Gone false ((Y.disk old).named n) in
    let is = unlinked _ n (Y.disk old) (Y.disk mid) c.if-branch.true (c.in_ok-unlink.ensures.ok tells held) in
    let place = same_place (Y.disk old) (Y.disk mid) _ is refl in
    let names = unlinked_names (Y.disk old) (Y.disk mid) n is in
    let all = c.start.new.self.swept c.in_ok-start.ensures.swept tells in
    puts_behind Y.moment Y.left_since Y.disk now c.args.self.now.system old new n None c.sweep.result (c.start.ensures.quiet tells)
    (put_swept Y.disk Y.moment Y.left_since now n None old (c.start.new.self.ready c.in_ok-start.ensures.ready tells) (g.met.Y.System.readable old tells)
    c.sweep.result mid new false (only_is n _ _ _ _ is (changed_at (put_at Gone false) (Y.disk old) n))
    (swept_there (Y.disk old) (Y.disk mid) (Y.disk new) n at place names all c.sweep.result (c.sweep.ensures.ok tells))
    (unsure_there (Y.disk old) (Y.disk mid) (Y.disk new) n at place names all c.sweep.result (c.sweep.ensures.err tells))
    (c.unlink.ensures.time tells held) (c.sweep.ensures.time tells))

pub returns-then-self : goal.returns-then-self
returns-then-self g c = λ tells.
    let Y = g.Y.System in
    let now = g.met.Y.System.counts_now in
    let held = c.start.new.self.held c.in_ok-start.ensures.locked in
    let old = c.start.new.self.system in
    let new = c.unlink.new.self in
    let is = not_there _ c.args.name (Y.disk old) (Y.disk new) c.if-branch.false (c.in_ok-unlink.ensures.ok tells held) in
    puts_nothing Y.moment Y.left_since Y.disk now c.args.self.now.system new c.args.name None _ refl
    (quiet_on Y.moment Y.left_since Y.disk now _ _ _ (c.start.ensures.quiet tells) (quiet_same Y.moment Y.left_since Y.disk now old new is.0 (c.unlink.ensures.time tells held)))

pub returns : goal.returns
returns g c = λ tells.
    let Y = g.Y.System in
    let now = g.met.Y.System.counts_now in
    let held = c.start.new.self.held c.in_ok-start.ensures.locked in
    let old = c.start.new.self.system in
    let new = c.unlink.new.self in
    let n = c.args.name in
    let is = not_there _ n (Y.disk old) (Y.disk new) c.if-branch.false (c.in_ok-unlink.ensures.ok tells held) in
    puts_behind Y.moment Y.left_since Y.disk now c.args.self.now.system old new n None (Ok tt) (c.start.ensures.quiet tells)
    (puts Y.disk Y.moment Y.left_since now n None old (c.start.new.self.ready c.in_ok-start.ensures.ready tells) (g.met.Y.System.readable old tells)
    (Ok tt) new ((Y.disk old).named n) (only_is n _ _ _ _ is.0 (same_at (Y.disk old) n)) (λ file was. inl was) is.1 (inl refl)
    (gone_only ((Y.disk old).named n) is.1 (c.start.new.self.swept c.in_ok-start.ensures.swept tells n) (c.start.new.self.trusted c.if-self.false tells n))
    (c.unlink.ensures.time tells held))
