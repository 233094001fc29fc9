use Rattle.std.proofs.Common.{length}
use Rattle.dv_mdbox_lines.proofs.Says.{SaysAs}
use Rattle.dv_mdbox_lines.proofs.cursor.Calls.next.Given as goal

abbrev pub invariant-lines : goal.invariant-lines
invariant-lines l = SaysAs l.fn.self.rest.now l.rest

abbrev pub decreases-lines : goal.decreases-lines
decreases-lines l = length l.rest
