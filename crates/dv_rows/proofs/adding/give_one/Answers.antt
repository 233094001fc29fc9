use Rattle.std.proofs.Common.{[], get_or, refl, rules, sym, ◌∙◌}
use Rattle.dv_rows.proofs.PartChanges.{none_changes, ok_then, one_changes}
use Rattle.dv_model.specs.declared.types.Row.{Row}
use Rattle.dv_rows.specs.Adding.{added}
use Rattle.dv_rows.proofs.adding.give_one.Goals as goal

pub returns-in_default-clause-ok : goal.returns-in_default-clause-ok
returns-in_default-clause-ok c = none_changes c.args.uid (added c.args.modseq c.args.place) c.args.rows.now (search rules)

pub returns-clause-ok : goal.returns-clause-ok
returns-clause-ok c =
    let rows = c.args.rows.now in
    let change = added c.args.modseq c.args.place in
    ok_then c.give_at.result _ _ c.give_at.ensures.ok (λ is.
    let d : Row = record { uid = 0; flags = 0; keywords = []; parts = []; modseq = 0 } in
    is d ∙ one_changes c.args.uid c.in-Some.at change rows d (change (get_or rows c.in-Some.at d)) c.requires.rows c.in-Some.ensures.inside (sym c.in-Some.ensures.is) refl)
