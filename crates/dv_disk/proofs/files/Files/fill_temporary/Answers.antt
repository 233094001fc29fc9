use Rattle.std.proofs.Common.{⊎_elim, false, length, take}
use Rattle.dv_system.specs.declared.system.Entry.TheVariants as entry
use Rattle.dv_system.specs.Entries.{empty_file, put_at, hidden_at, written_at}
use Rattle.dv_disk.proofs.Runs.{quiet_on}
use Rattle.dv_disk.proofs.Calls.{beside, temporary_changed, temporary_durable, temporary_failed, temporary_same, temporary_synced, temporary_written}
use Rattle.dv_disk.proofs.files.Files.fill_temporary.Goals as goal

pub returns-in_err-file-clause-quiet : goal.returns-in_err-file-clause-quiet
returns-in_err-file-clause-quiet g c = λ tells.
    let Y = g.Y.System in
    let held = c.args.self.now.held c.requires.locked in
    beside Y.disk Y.moment Y.left_since g.met.Y.System.counts_now c.args.self.now.system c.create.new.self (c.create.ensures.time tells held)
    (temporary_failed (put_at empty_file false) (hidden_at empty_file) _ _ (c.in_err-file.ensures.err tells held))

pub returns-in_err-write-clause-quiet : goal.returns-in_err-write-clause-quiet
returns-in_err-write-clause-quiet g c = λ tells.
    let Y = g.Y.System in
    let now = g.met.Y.System.counts_now in
    let held = c.args.self.now.held c.requires.locked in
    let held' = c.create.ensures.lock held in
    let made = beside Y.disk Y.moment Y.left_since now c.args.self.now.system c.create.new.self (c.create.ensures.time tells held)
    (temporary_changed (put_at empty_file false) _ _ (c.in_ok-file.ensures.ok tells held)) in
    let wrote = c.in_err-write.ensures.err tells held' entry.Temporary (c.in_ok-file.ensures.stands tells held) in
    quiet_on Y.moment Y.left_since Y.disk now _ _ _ made
    (beside Y.disk Y.moment Y.left_since now c.create.new.self c.write.new.self (c.write.ensures.time tells held') (⊎_elim (temporary_same _ _) (λ some. temporary_changed (written_at 0 (length c.args.bytes.now) (take some.0 c.args.bytes.now)) _ _ some.2) wrote))

pub returns-clause-quiet : goal.returns-clause-quiet
returns-clause-quiet g c = λ tells.
    let Y = g.Y.System in
    let now = g.met.Y.System.counts_now in
    let held = c.args.self.now.held c.requires.locked in
    let held' = c.create.ensures.lock held in
    let held'' = c.write.ensures.lock held' in
    let stands = c.in_ok-file.ensures.stands tells held in
    let still = c.write.ensures.open tells held' _ entry.Temporary stands in
    let made = beside Y.disk Y.moment Y.left_since now c.args.self.now.system c.create.new.self (c.create.ensures.time tells held)
    (temporary_changed (put_at empty_file false) _ _ (c.in_ok-file.ensures.ok tells held)) in
    let wrote = beside Y.disk Y.moment Y.left_since now c.create.new.self c.write.new.self (c.write.ensures.time tells held')
    (temporary_written c.args.bytes.now _ _ (c.write.ensures.empty tells held') (λ some. c.in_ok-write.ensures.ok tells held' some entry.Temporary stands)) in
    quiet_on Y.moment Y.left_since Y.disk now _ _ _ (quiet_on Y.moment Y.left_since Y.disk now _ _ _ made wrote)
    (beside Y.disk Y.moment Y.left_since now c.write.new.self c.sync.new.self (c.sync.ensures.time tells held'')
    (temporary_synced c.sync.result _ _ (c.sync.ensures.ok tells held'' entry.Temporary still) (c.sync.ensures.err tells held'' entry.Temporary still)))

pub returns-clause-bytes : goal.returns-clause-bytes
returns-clause-bytes g c = λ tells.
    let Y = g.Y.System in
    let held = c.args.self.now.held c.requires.locked in
    let held' = c.create.ensures.lock held in
    let held'' = c.write.ensures.lock held' in
    let stands = c.in_ok-file.ensures.stands tells held in
    let still = c.write.ensures.open tells held' _ entry.Temporary stands in
    temporary_durable c.sync.result c.args.bytes.now (Y.disk c.args.self.now.system) (Y.disk c.create.new.self) (Y.disk c.write.new.self) (Y.disk c.sync.new.self) (c.in_ok-file.ensures.ok tells held) (c.write.ensures.empty tells held') (λ some. c.in_ok-write.ensures.ok tells held' some entry.Temporary stands)
    (c.sync.ensures.ok tells held'' entry.Temporary still)
