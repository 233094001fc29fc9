use Rattle.std.proofs.Common.{◌≡◌, length}
use Rattle.std.specs.List.{slice_split}
use Rattle.dv_dbox.specs.BoxTexts.{before_empty, is_feed}
use Rattle.dv_dbox.specs.Reading.{texts}
use Rattle.dv_dbox.proofs.Lines.{with_front}
use Rattle.dv_dbox.proofs.reading.lines_of.Given as goal

abbrev pub invariant-loop-line : goal.invariant-loop-line
invariant-loop-line l = before_empty (slice_split is_feed l.b) ≡ with_front (texts l.lines.items) (before_empty (slice_split is_feed l.rest))

abbrev pub decreases-loop-line : goal.decreases-loop-line
decreases-loop-line l = length l.rest
