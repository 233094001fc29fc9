use Rattle.std.proofs.Common.{◌≡◌, ◌≤◌, ◌+◌, ◌*◌, ℕ, [], length, take}
use Rattle.std.specs.Prelude.{All}
use Rattle.dv_formats.specs.Scripts.{NamedLine}
use Rattle.dv_serial.specs.Following.{Follows, Origin}
use Rattle.dv_serial.specs.Numbering.{AreSeen}
use Rattle.dv_serving.specs.Readings.{AtReadings, TakesUpTo}
use Rattle.dv_serving.specs.Servable.{IsServable}
use Rattle.dv_serial.proofs.Turns.{AreLeft, given}
use Rattle.dv_watching.specs.Watching.{IsBeside}
use Rattle.dv_watching.proofs.Running.{WatchesTo}
use Rattle.dv_watching.proofs.lines.watch_lines.Given as goal

abbrev pub invariant-loop-seen : goal.invariant-loop-seen
invariant-loop-seen g l = record {
  left : AreLeft (g.L.Lines.left l.initial.lines) (g.L.Lines.left l.lines);
  servable : All (λ (line : NamedLine). IsServable line.1) (g.L.Lines.left l.lines);
  seen : AreSeen (take (given (g.L.Lines.left l.initial.lines) (g.L.Lines.left l.lines)) (g.L.Lines.left l.initial.lines)) l.seen.items;
  beside : IsBeside l.initial.saved.key l.serial l.saved;
  groups : l.serial.groups ≤ l.initial.serial.groups + given (g.L.Lines.left l.initial.lines) (g.L.Lines.left l.lines);
  seats : length l.serial.seats ≡ length l.initial.serial.seats;
  later : (g.S.Shelf.sees.fault_count l.initial.serial.store.shelf ≤ g.S.Shelf.sees.fault_count l.serial.store.shelf)
      × (g.O.Sink.sees.fault_count l.initial.out ≤ g.O.Sink.sees.fault_count l.out);
  readings : g.C.Clock.sees.tells → TakesUpTo (2 * given (g.L.Lines.left l.initial.lines) (g.L.Lines.left l.lines)) (g.C.Clock.sees.upcoming l.initial.serial.store.clock) (g.C.Clock.sees.upcoming l.serial.store.clock);
  runs : g.S.Shelf.sees.tells → (origin : Origin)
      → Follows g.S.Shelf.sees g.C.Clock.sees origin (g.S.Shelf.sees.fault_count l.initial.serial.store.shelf) [] l.initial.serial
      → AtReadings g.C.Clock.sees.tells origin.clock (λ (clock : ℕ → ℕ).
      WatchesTo g.S.Shelf.sees g.C.Clock.sees clock origin.start origin.base l.initial.saved.key (g.L.Lines.left l.initial.lines) g.O.Sink.sees.tells (g.O.Sink.sees.taken l.initial.out) l.initial.serial
      (g.S.Shelf.sees.fault_count l.serial.store.shelf) (given (g.L.Lines.left l.initial.lines) (g.L.Lines.left l.lines)) (g.O.Sink.sees.taken l.out) l.serial);
}

abbrev pub decreases-loop-seen : goal.decreases-loop-seen
decreases-loop-seen g l = length (g.L.Lines.left l.lines)
