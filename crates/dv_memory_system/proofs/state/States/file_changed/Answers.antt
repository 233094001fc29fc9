use Rattle.std.proofs.Common.{◌∙◌, sym}
use Rattle.dv_shelf.proofs.FolderLemmas.{same_is}
use Rattle.dv_memory_system.specs.Steps.{change_at}
use Rattle.dv_memory_system.proofs.Shown.{names_differ, other_changed}
use Rattle.dv_memory_system.proofs.state.States.file_changed.Goals as goal

pub returns-then-same_name : goal.returns-then-same_name
returns-then-same_name c = λ disk are. rw (same_is c.args.other c.args.name (sym c.same_name.ensures ∙ c.if-same_name.true)) (c.here_changed.ensures disk c.args.name are)

pub returns-else-same_name : goal.returns-else-same_name
returns-else-same_name c = λ disk are.
    other_changed (change_at c.args.change c.args.bytes.now) disk c.args.name c.args.other c.args.self (names_differ c.args.other c.args.name (sym c.same_name.ensures ∙ c.if-same_name.false)) are
