use Rattle.std.proofs.Common.{◌≡◌, [], Option, List, ℕ, Some, ◌∙◌, ap, refl, subst}
use Rattle.std.specs.Prelude.{unwrap_or}
use Rattle.dv_shelf.specs.Folders.{patched}
use Rattle.dv_system.specs.Disks.{files_of}
use Rattle.dv_disk.specs.Steps.{Puts}
use Rattle.dv_disk.proofs.Runs.{puts_behind, writes_nothing}
use Rattle.dv_disk.proofs.Writing.{replaced}
use Rattle.dv_disk.proofs.files.Files.fill.Goals as goal

pub returns-in_default : goal.returns-in_default
returns-in_default g c = λ tells.
    let Y = g.Y.System in
    writes_nothing Y.moment Y.left_since Y.disk g.met.Y.System.counts_now c.args.self.now.system c.read.new.self.system c.args.name c.args.at [] _ refl (c.read.ensures.quiet tells)

pub returns-in-Err : goal.returns-in-Err
returns-in-Err g c = λ tells.
    let Y = g.Y.System in
    writes_nothing Y.moment Y.left_since Y.disk g.met.Y.System.counts_now c.args.self.now.system c.read.new.self.system c.args.name c.args.at [] _ refl (c.read.ensures.quiet tells)

pub returns-in-Ok-filled : goal.returns-in-Ok-filled
returns-in-Ok-filled g c = λ tells.
    let Y = g.Y.System in
    let old = c.args.self.now.system in
    let new = c.replace.new.self.system in
    let n = c.args.name in
    let is : c.as_slice.result.now ≡ patched (unwrap_or (files_of (Y.disk old) n) []) c.args.at [] =
    c.as_slice.ensures ∙ c.in-Ok-filled.ensures ∙ ap (λ (o : Option (List ℕ)). patched (unwrap_or o []) c.args.at []) (c.in-Ok.ensures.found tells) in
    replaced Y.disk Y.moment Y.left_since n c.args.at old (c.args.self.now.ready c.requires.ready tells) (g.met.Y.System.readable old tells) c.replace.result new
    (subst (λ (b : List ℕ). Puts Y.disk Y.moment Y.left_since n (Some b) c.replace.result old new) is
    (puts_behind Y.moment Y.left_since Y.disk g.met.Y.System.counts_now old c.read.new.self.system new n (Some c.as_slice.result.now) c.replace.result (c.read.ensures.quiet tells) (c.replace.ensures tells)))
