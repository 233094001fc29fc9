use Rattle.std.proofs.Common.{rules, subst}
use Rattle.std.specs.Prelude.{IfOk, MatchBool}
use Rattle.dv_shelf.specs.Folders.{Folder, IsNew}
use Rattle.dv_disk.proofs.files.Files.has_mailbox.Goals as goal

pub returns-clause-found : goal.returns-clause-found
returns-clause-found g c = λ tells.
    subst (λ (f : Folder). IfOk c.has_mailbox.result (λ has. MatchBool has (IsNew f → ⊥) (IsNew f))) (c.enter.ensures.quiet tells).files (c.has_mailbox.ensures.found tells (c.enter.new.self.held (search rules)))
