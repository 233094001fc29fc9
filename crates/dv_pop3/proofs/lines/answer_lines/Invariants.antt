use Rattle.std.proofs.Common.{◌≡◌, ◌≤◌, false, length}
use Rattle.dv_serving.specs.Outputs.{output_of}
use mathlib.Core.List.{IsPrefix}
use Rattle.dv_member.specs.Members.{notes_of}
use Rattle.dv_pop3.proofs.Exchanging.{Goes}
use Rattle.dv_pop3.proofs.lines.answer_lines.Given as goal

abbrev pub invariant-loop-lines : goal.invariant-loop-lines
invariant-loop-lines g l =
    (g.K.Keeping.honest → Goes g.K.Keeping.start g.K.Keeping.count l.initial.pop l.pop l.initial.lines l.lines (output_of g.O.Sink.sees l.initial.out l.out))
    × (l.pop.session.spent ≡ false)
    × IsPrefix (notes_of l.initial.pop.session) (notes_of l.pop.session)
    × (g.O.Sink.sees.fault_count l.initial.out ≤ g.O.Sink.sees.fault_count l.out)

abbrev pub decreases-loop-lines : goal.decreases-loop-lines
decreases-loop-lines g l = length l.lines
