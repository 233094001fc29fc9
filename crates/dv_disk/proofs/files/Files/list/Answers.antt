use Rattle.std.proofs.Common.{List, rules, subst}
use Rattle.dv_shelf.specs.Folders.{Folder, Lists}
use Rattle.dv_system.specs.declared.system.Entry.{Entry}
use Rattle.dv_disk.specs.Names.{AreNamesOf}
use Rattle.dv_disk.proofs.Listing.{lists_names}
use Rattle.dv_disk.proofs.files.Files.list.Goals as goal

pub returns-in-Ok-clause-found : goal.returns-in-Ok-clause-found
returns-in-Ok-clause-found g c = λ tells.
    let Y = g.Y.System in
    let mid = c.enter.new.self in
    subst (λ (f : Folder). Lists f c.in-Ok.names) (c.enter.ensures.quiet tells).files
    (lists_names (Y.disk mid.system) c.in_ok-entries.entries c.in-Ok.names (c.in_ok-entries.ensures.found tells (mid.held (search rules)))
    (subst (λ (es : List Entry). AreNamesOf es c.in-Ok.names) c.as_slice.ensures c.in-Ok.ensures))
