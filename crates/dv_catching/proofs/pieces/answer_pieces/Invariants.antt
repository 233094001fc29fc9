use Rattle.std.proofs.Common.{◌≡◌, ◌++◌, take}
use Rattle.dv_qresync.specs.Texts.{answers_text}
use Rattle.dv_catching.specs.Texts.{joined}
use Rattle.dv_catching.proofs.pieces.answer_pieces.Given as goal

abbrev pub invariant-loop-a : goal.invariant-loop-a
invariant-loop-a l = joined l.pieces.items ++ l.text ≡ answers_text (take l.a-index l.answers)
