use Rattle.std.proofs.Common.{◌∙◌, List, map, ap}
use Rattle.std.specs.Prelude.{fold}
use Rattle.dv_model.specs.declared.types.Change.{Change}
use Rattle.dv_model.specs.declared.types.Row.{Row}
use Rattle.dv_validity.specs.Laws.{changed_flags, restamped}
use Rattle.dv_portion.proofs.Joined.{same_flags}
use Rattle.dv_portion.proofs.changes.change_flags.Goals as goal

pub returns-in-Ok-Some-clause-rows : goal.returns-in-Ok-Some-clause-rows
returns-in-Ok-Some-clause-rows c =
    let rows = c.args.rows.now.rows in
    let alike = rw c.in-Ok-Some.field-0-is at c.in-Ok-Some.ensures.same in
    c.change_flags.ensures.rows
    ∙ ap (λ (cs : List Change). map (λ (row : Row). restamped c.args.modseq row (fold changed_flags row cs)) rows) c.deref.ensures.value
    ∙ same_flags c.args.modseq c.in-Ok-Some.joined.items c.args.changes.now rows c.count.ensures.rows.below alike
