use Rattle.std.proofs.Common.{◌≡◌, ◌++◌, ◌≤◌, take}
use Rattle.dv_catching.specs.Texts.{joined}
use Rattle.dv_catching.proofs.pieces.write_pieces.Given as goal

abbrev pub invariant-loop-piece : goal.invariant-loop-piece
invariant-loop-piece g l = record {
  taken : g.O.Sink.sees.tells → g.O.Sink.sees.taken l.out ≡ g.O.Sink.sees.taken l.initial.out ++ joined (take l.piece-index l.pieces);
  later : g.O.Sink.sees.fault_count l.initial.out ≤ g.O.Sink.sees.fault_count l.out;
}
