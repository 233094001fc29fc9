use Rattle.std.proofs.Common.{◌∙◌, ap, List}
use Rattle.std.specs.List.{list_any}
use Rattle.dv_shelf.specs.declared.shelf.Name.{Name}
use Rattle.dv_shelf.specs.Folders.{is_of_mailbox}
use Rattle.dv_shelf.specs.MemShelves.{files_of}
use Rattle.dv_shelf.proofs.NewFolders.{new_or_not}
use Rattle.dv_shelf.proofs.mem_shelf.MemShelfShelf.has_mailbox.Goals as goal

pub returns-in-Ok-clause-found : goal.returns-in-Ok-clause-found
returns-in-Ok-clause-found c =
    new_or_not (files_of c.args.self.now) c.in-Ok.names c.in-Ok.ensures.found c.are_of_mailbox.result (c.are_of_mailbox.ensures ∙ ap (λ (names : List Name). list_any is_of_mailbox names) c.as_slice.ensures)
