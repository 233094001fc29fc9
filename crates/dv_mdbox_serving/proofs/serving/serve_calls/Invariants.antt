use Rattle.std.proofs.Common.{◌≤◌, ℕ, [], length}
use Rattle.dv_logfile.specs.Settling.{StaysSettled}
use Rattle.dv_maps.specs.Storages.{Storage}
use Rattle.dv_mdbox_lines.specs.Views.{calls_left}
use Rattle.dv_mdbox_serving.specs.Following.{Follows}
use Rattle.dv_mdbox_serving.proofs.InTurn.{ServesTo}
use Rattle.dv_mdbox_serving.proofs.serving.serve_calls.Given as goal

abbrev pub invariant-loop-call : goal.invariant-loop-call
invariant-loop-call g l = record {
  serves : g.S.Shelf.sees.tells → (start : Storage) (base : ℕ) → Follows g.S.Shelf.sees start base [] l.initial.storage
      → ServesTo g.S.Shelf.sees start base (calls_left l.initial.calls) g.O.Sink.sees.tells (g.O.Sink.sees.taken l.initial.out) l.initial.storage (calls_left l.calls) (g.O.Sink.sees.taken l.out) l.storage;
  settled : g.S.Shelf.sees.tells → StaysSettled g.S.Shelf.sees l.initial.storage.shelf l.storage.shelf;
  later : g.S.Shelf.sees.fault_count l.initial.storage.shelf ≤ g.S.Shelf.sees.fault_count l.storage.shelf;
  sink : g.O.Sink.sees.fault_count l.initial.out ≤ g.O.Sink.sees.fault_count l.out;
}

abbrev pub decreases-loop-call : goal.decreases-loop-call
decreases-loop-call g l = length (calls_left l.calls)
