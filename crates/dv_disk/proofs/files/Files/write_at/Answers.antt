use Rattle.std.proofs.Common.{[], List, ℕ, ◌∙◌, subst, sym}
use Rattle.dv_disk.specs.Steps.{Writes}
use Rattle.dv_disk.proofs.Runs.{quiet_on, writes_behind, writes_nothing}
use Rattle.dv_disk.proofs.Calls.{passed}
use Rattle.dv_disk.proofs.Writing.{none_left, wrote}
use Rattle.dv_disk.proofs.files.Files.write_at.Goals as goal

pub returns-in_err-make_ready : goal.returns-in_err-make_ready
returns-in_err-make_ready g c = λ tells.
    let Y = g.Y.System in
    writes_nothing Y.moment Y.left_since Y.disk g.met.Y.System.counts_now c.args.self.now.system c.make_ready.new.self.system c.args.name c.args.at c.args.bytes.now c.from_residual.result
    (passed c.from_residual.result _ c.from_residual.ensures.1) (c.make_ready.ensures.quiet tells)

pub returns-then-is_empty : goal.returns-then-is_empty
returns-then-is_empty g c = λ tells.
    let Y = g.Y.System in
    let old = c.args.self.now.system in
    let new = c.fill.new.self.system in
    let n = c.args.name in
    subst (λ (b : List ℕ). Writes Y.disk Y.moment Y.left_since n c.args.at b c.fill.result old new) (sym (none_left c.args.bytes.now (sym c.is_empty.ensures ∙ c.if-is_empty.true)))
    (writes_behind Y.moment Y.left_since Y.disk g.met.Y.System.counts_now old c.make_ready.new.self.system new n c.args.at [] c.fill.result (c.make_ready.ensures.quiet tells) (c.fill.ensures tells))

pub returns-in_err-file : goal.returns-in_err-file
returns-in_err-file g c = λ tells.
    let Y = g.Y.System in
    let now = g.met.Y.System.counts_now in
    let r = c.from_residual-in_err-file.result in
    writes_nothing Y.moment Y.left_since Y.disk now c.args.self.now.system c.take_open.new.self.system c.args.name c.args.at c.args.bytes.now r
    (passed r _ c.from_residual-in_err-file.ensures.1)
    (quiet_on Y.moment Y.left_since Y.disk now _ _ _ (c.make_ready.ensures.quiet tells) (c.take_open.ensures.quiet tells))

pub returns-in-Some : goal.returns-in-Some
returns-in-Some g c = λ tells.
    let Y = g.Y.System in
    let now = g.met.Y.System.counts_now in
    let mid = c.take_open.new.self.system in
    writes_behind Y.moment Y.left_since Y.disk now c.args.self.now.system mid c.write_kept.new.self.system c.args.name c.args.at c.args.bytes.now c.write_kept.result
    (quiet_on Y.moment Y.left_since Y.disk now _ _ _ (c.make_ready.ensures.quiet tells) (c.take_open.ensures.quiet tells))
    (wrote Y.disk Y.moment Y.left_since now c.args.name c.args.at c.args.bytes.now mid (c.take_open.new.self.ready (c.take_open.ensures.ready ∙ c.in_ok-make_ready.ensures.ready) tells) (g.met.Y.System.readable mid tells)
    c.write_kept.result c.write_kept.new.self.system (c.write_kept.ensures.written tells) (c.write_kept.ensures.time tells))

pub returns-in-None : goal.returns-in-None
returns-in-None g c = λ tells.
    let Y = g.Y.System in
    let now = g.met.Y.System.counts_now in
    writes_behind Y.moment Y.left_since Y.disk now c.args.self.now.system c.take_open.new.self.system c.write_new.new.self.system c.args.name c.args.at c.args.bytes.now c.write_new.result
    (quiet_on Y.moment Y.left_since Y.disk now _ _ _ (c.make_ready.ensures.quiet tells) (c.take_open.ensures.quiet tells))
    (c.write_new.ensures tells)
