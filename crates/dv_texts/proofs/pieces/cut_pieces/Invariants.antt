use Rattle.std.proofs.Common.{◌≡◌, ◌++◌, ◌≤◌, length, take}
use Rattle.dv_texts.specs.Lines.{joined}
use Rattle.dv_texts.proofs.pieces.cut_pieces.Given as goal

abbrev pub invariant-loop-before : goal.invariant-loop-before
invariant-loop-before l = record {
  before : l.before ≡ length (joined l.pieces.items);
  fewer : l.before ≤ l.fn.whole;
  front : take l.most (joined l.pieces.items ++ l.last) ≡ take l.most (joined l.initial.pieces.items ++ l.initial.last);
}

abbrev pub decreases-loop-before : goal.decreases-loop-before
decreases-loop-before l = length l.pieces.items
