use Rattle.std.proofs.Common.{length}
use Rattle.dv_feed.proofs.Marks.{IsMarkedTo, LeftFrom}
use Rattle.dv_feed.proofs.marking.mark_behind_words.Given as goal

abbrev pub invariant-loop-rest : goal.invariant-loop-rest
invariant-loop-rest l = LeftFrom l.behind l.rest × IsMarkedTo l.fn.mark l.words l.behind l.rest

abbrev pub decreases-loop-rest : goal.decreases-loop-rest
decreases-loop-rest l = length l.rest
