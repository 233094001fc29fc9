use Rattle.std.proofs.Common.{◌≡◌, ◌≤◌, ◌+◌, ◌*◌, ℕ, [], length, take}
use Rattle.std.specs.Prelude.{All}
use Rattle.dv_formats.specs.Scripts.{NamedLine}
use Rattle.dv_serial.specs.Following.{Follows, Origin}
use Rattle.dv_serial.specs.Numbering.{AreSeen}
use Rattle.dv_serial.specs.Serves.{AreAbreast}
use Rattle.dv_serving.specs.Readings.{AtReadings, TakesUpTo}
use Rattle.dv_serving.specs.Servable.{IsServable}
use Rattle.dv_serial.proofs.Running.{RunsTo}
use Rattle.dv_serial.proofs.Turns.{AreLeft, given}
use Rattle.dv_serial.proofs.serial.Serial.serve_lines.Given as goal

abbrev pub invariant-loop-seen : goal.invariant-loop-seen
invariant-loop-seen g l = record {
  left : AreLeft (g.L.Lines.left l.initial.lines) (g.L.Lines.left l.lines);
  servable : All (λ (line : NamedLine). IsServable line.1) (g.L.Lines.left l.lines);
  seen : AreSeen (take (given (g.L.Lines.left l.initial.lines) (g.L.Lines.left l.lines)) (g.L.Lines.left l.initial.lines)) l.seen.items;
  abreast : AreAbreast l.self;
  groups : l.self.groups ≤ l.initial.self.groups + given (g.L.Lines.left l.initial.lines) (g.L.Lines.left l.lines);
  seats : length l.self.seats ≡ length l.initial.self.seats;
  later : (g.S.Shelf.sees.fault_count l.initial.self.store.shelf ≤ g.S.Shelf.sees.fault_count l.self.store.shelf)
      × (g.O.Sink.sees.fault_count l.initial.out ≤ g.O.Sink.sees.fault_count l.out);
  readings : g.C.Clock.sees.tells → TakesUpTo (2 * given (g.L.Lines.left l.initial.lines) (g.L.Lines.left l.lines)) (g.C.Clock.sees.upcoming l.initial.self.store.clock) (g.C.Clock.sees.upcoming l.self.store.clock);
  runs : g.S.Shelf.sees.tells → (origin : Origin)
      → Follows g.S.Shelf.sees g.C.Clock.sees origin (g.S.Shelf.sees.fault_count l.initial.self.store.shelf) [] l.initial.self
      → AtReadings g.C.Clock.sees.tells origin.clock (λ (clock : ℕ → ℕ).
      RunsTo g.S.Shelf.sees g.C.Clock.sees clock origin.start origin.base (g.L.Lines.left l.initial.lines) g.O.Sink.sees.tells (g.O.Sink.sees.taken l.initial.out) l.initial.self
      (g.S.Shelf.sees.fault_count l.self.store.shelf) (given (g.L.Lines.left l.initial.lines) (g.L.Lines.left l.lines)) (g.O.Sink.sees.taken l.out) l.self);
}

abbrev pub decreases-loop-seen : goal.decreases-loop-seen
decreases-loop-seen g l = length (g.L.Lines.left l.lines)
