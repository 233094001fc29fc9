-- Behind the last line all of them are given.
use Rattle.dv_parts.proofs.Parting.{all_given, none_left}
use Rattle.dv_parts.proofs.parts.part_lines.Goals as goal

pub returns : goal.returns
returns g c =
    rw c.from_vec.ensures
    (all_given (g.L.Lines.left c.given.lines) (g.L.Lines.left c.args.lines.now) c.given.parts.items
    c.given.invariant (none_left (g.L.Lines.left c.given.lines) c.in_ok-line.field-0 _ c.in_ok-line.ensures.next c.in_default.not-Some))
