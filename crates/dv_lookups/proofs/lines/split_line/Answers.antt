use Rattle.std.proofs.Common.{length, sym, ◌∙◌, arith}
use Rattle.std.proofs.lemmas.List.{take_rest, drop_all}
use Rattle.dv_fields.proofs.FirstLines.{first_line, only_line}
use Rattle.dv_lookups.proofs.lines.split_line.Goals as goal

pub returns-in-Some-clause-first : goal.returns-in-Some-clause-first
returns-in-Some-clause-first c = λ h. rw take_rest (rw c.without_return.ensures (first_line c.args.text.now c.in-Some.end (sym c.in-Some.ensures)))

pub returns-in-None-clause-first : goal.returns-in-None-clause-first
returns-in-None-clause-first c = λ h.
    let text = c.args.text.now in
    rw (take_rest text (length text), drop_all (length text) text (omega arith)) (only_line text (sym c.byte_place.ensures ∙ c.in-None.is) h)
