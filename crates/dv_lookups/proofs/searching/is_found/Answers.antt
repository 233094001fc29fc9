use Rattle.std.proofs.Common.{◌∙◌, sym}
use Rattle.dv_lookups.specs.Reads.{held_in}
use Rattle.dv_lookups.proofs.Picking.{known_damaged, known_gone, known_some}
use Rattle.dv_lookups.proofs.searching.is_found.Goals as goal

pub returns-in-Known : goal.returns-in-Known
returns-in-Known c = λ k view is asked asks mail found.
    c.finds.ensures k view is (held_in mail) (known_some k asked asks c.args.s.now.uid mail c.in-Known.facts (sym c.in-Known.is ∙ found))

pub returns-in-Gone : goal.returns-in-Gone
returns-in-Gone c = λ k view is asked asks mail found.
    c.finds-in-Gone.ensures k view is (held_in mail) (known_gone k asked asks c.args.s.now.uid mail (sym c.in-Gone.is ∙ found))

pub returns-in-Damaged : goal.returns-in-Damaged
returns-in-Damaged c = λ k view is asked asks mail found.
    c.finds-in-Damaged.ensures k view is (held_in mail) (known_damaged k asked asks c.args.s.now.uid mail (sym c.in-Damaged.is ∙ found))
