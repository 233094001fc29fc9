use Rattle.std.proofs.Common.{◌≡◌, subst}
use Rattle.std.specs.Prelude.{IfOk}
use Rattle.dv_shelf.specs.Folders.{Folder}
use Rattle.dv_disk.proofs.files.Files.read.Goals as goal

pub returns-clause-found : goal.returns-clause-found
returns-clause-found g c = λ tells.
    subst (λ (f : Folder). IfOk c.read_there.result (λ bytes. bytes ≡ f c.args.name)) (c.enter.ensures.quiet tells).files (c.read_there.ensures.found tells)
