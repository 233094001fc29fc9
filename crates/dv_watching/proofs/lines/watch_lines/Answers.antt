-- Each line is one step more of the run.
use Rattle.std.proofs.Common.{◌≡◌, ℕ, ◌*◌, List, [], ◌∷◌, Option, Some, None, Ok, Err, length, take, refl, sym, subst, ◌∙◌, ap, arith}
use Rattle.std.specs.Prelude.{All}
use Rattle.std.proofs.lemmas.List.Elements.{All-head, All-tail}
use Rattle.dv_formats.specs.Scripts.{NamedLine}
use Rattle.dv_script.specs.Sources.{IsNext, named}
use Rattle.dv_script.specs.declared.types.Line.{Line}
use Rattle.dv_serial.specs.declared.numbers.Seen.{Seen}
use Rattle.dv_serial.proofs.Crashing.{stays_may}
use Rattle.dv_serial.specs.declared.lines.LineEnd.TheVariants as line_end
use Rattle.dv_serial.specs.Numbering.{AreSeen}
use Rattle.dv_serial.specs.Following.{origin_of}
use Rattle.dv_watching.specs.Watching.{Watches}
use Rattle.dv_serving.specs.Faults.{faults_of}
use Rattle.dv_serving.specs.Readings.{AtReadings, TakesUpTo}
use Rattle.dv_serving.proofs.Readings.{readings_give}
use Rattle.dv_serving.specs.Servable.{IsServable}
use Rattle.dv_watching.proofs.Running.{WatchesTo, line_ends, line_goes_on, of_error, reads_with_key, watches_all, watches_none, watches_unbegun}
use Rattle.dv_serving.proofs.Led.{takes_more, takes_none}
use Rattle.dv_serial.proofs.Turns.{all_left, few_given, first_given, given, next_seat, one_given, seen_given, some_left, turn_given}
use Rattle.dv_watching.proofs.lines.watch_lines.Goals as goal
use Rattle.dv_serving.specs.Outputs.{output_of}

is_next : (old new : List NamedLine) (o : Option Line) (line : Line) → o ≡ Some line → IsNext old o new → old ≡ named line ∷ new
is_next old new o line is next = subst (λ (x : Option Line). IsNext old x new) is next

is_none : (old new : List NamedLine) (o : Option Line) → o ≡ None → IsNext old o new → old ≡ []
is_none old new o is next = (subst (λ (x : Option Line). IsNext old x new) is next).0

pub loop-seen-init : goal.loop-seen-init
loop-seen-init g c =
    let S = g.S.Shelf in
    let serving = c.args.serial.now in
    let all = g.L.Lines.left c.args.lines.now in
    let none = all_left all in
    record {
      left = none.1;
      servable = c.requires.servable;
      seen = subst (λ (items : List Seen). AreSeen (take (given all all) all) items) (sym c.new-seen.ensures.items) (subst (λ (n : ℕ). AreSeen (take n all) []) (sym none.0) (record { names = refl; commands = λ name. refl }));
      beside = c.requires.beside;
      groups = omega arith;
      seats = refl;
      later = (omega arith, omega arith);
      readings = λ clocks. subst (λ (n : ℕ). TakesUpTo (2 * n) (g.C.Clock.sees.upcoming serving.store.clock) (g.C.Clock.sees.upcoming serving.store.clock)) (sym none.0) (takes_none (g.C.Clock.sees.upcoming serving.store.clock));
      runs = λ tells origin follows. record {
        clock = origin.clock;
        small = follows.small;
        told = λ reads n. refl;
        holds = subst (λ (n : ℕ). WatchesTo S.sees g.C.Clock.sees origin.clock origin.start origin.base c.args.saved.now.key all g.O.Sink.sees.tells (g.O.Sink.sees.taken c.args.out.now) serving
            (S.sees.fault_count serving.store.shelf) n (g.O.Sink.sees.taken c.args.out.now) serving) (sym none.0)
            (watches_none S.sees g.C.Clock.sees origin.clock origin.start origin.base c.args.saved.now.key all g.O.Sink.sees.tells (g.O.Sink.sees.taken c.args.out.now) serving
            (S.sees.fault_count serving.store.shelf) follows
            (stays_may S.sees origin.clock origin.start _ serving follows.keeps (λ f left. g.met.S.Shelf.only_now serving.store.shelf f tells left)));
      };
    }

pub next_turn-requires-clause-sessions : goal.next_turn-requires-clause-sessions
next_turn-requires-clause-sessions g c =
    let all = g.L.Lines.left c.args.lines.now in
    let left = g.L.Lines.left c.loop-seen.lines in
    let one = one_given all left (g.L.Lines.left c.next.new.self) (named c.in-Some.line) c.loop-seen.invariant.left (is_next left (g.L.Lines.left c.next.new.self) c.in_ok-line.field-0 c.in-Some.line c.in-Some.is c.in_ok-line.ensures.next) in
    omega (arith, (few_given all left c.loop-seen.seen.items c.loop-seen.invariant.seen).0, one.less, c.requires.few)

pub next_turn-requires-clause-commands : goal.next_turn-requires-clause-commands
next_turn-requires-clause-commands g c =
    let all = g.L.Lines.left c.args.lines.now in
    let left = g.L.Lines.left c.loop-seen.lines in
    let one = one_given all left (g.L.Lines.left c.next.new.self) (named c.in-Some.line) c.loop-seen.invariant.left (is_next left (g.L.Lines.left c.next.new.self) c.in_ok-line.field-0 c.in-Some.line c.in-Some.is c.in_ok-line.ensures.next) in
    omega (arith, (few_given all left c.loop-seen.seen.items c.loop-seen.invariant.seen).1 c.as_slice.result.now, one.less, c.requires.few)

pub watch_line-requires-clause-asked : goal.watch_line-requires-clause-asked
watch_line-requires-clause-asked g c =
    let all = g.L.Lines.left c.args.lines.now in
    let left = g.L.Lines.left c.loop-seen.lines in
    let line = named c.in-Some.line in
    let same = is_next left (g.L.Lines.left c.next.new.self) c.in_ok-line.field-0 c.in-Some.line c.in-Some.is c.in_ok-line.ensures.next in
    let one = one_given all left (g.L.Lines.left c.next.new.self) line c.loop-seen.invariant.left same in
    let turn = rw c.as_slice.ensures at (c.in_ok-turn.ensures.turn (take (given all left) all) c.in-Some.line.command c.loop-seen.invariant.seen) in
    let seat = next_seat all (given all left) c.in_ok-turn.turn.session line (turn_given all left (g.L.Lines.left c.next.new.self) line c.in_ok-turn.turn one turn) in
    record {
      seat = (seat.0, omega (arith, seat.1, c.loop-seen.invariant.seats, c.requires.seats));
      servable = All-head (λ (l : NamedLine). IsServable l.1) line (g.L.Lines.left c.next.new.self) (subst (All (λ (l : NamedLine). IsServable l.1)) same c.loop-seen.invariant.servable);
    }

pub watch_line-requires-clause-beside : goal.watch_line-requires-clause-beside
watch_line-requires-clause-beside g c = let beside = c.loop-seen.invariant.beside in record { key = refl; abreast = beside.abreast; kept = beside.kept }

pub watch_line-requires-clause-room : goal.watch_line-requires-clause-room
watch_line-requires-clause-room g c =
    let all = g.L.Lines.left c.args.lines.now in
    let left = g.L.Lines.left c.loop-seen.lines in
    let one = one_given all left (g.L.Lines.left c.next.new.self) (named c.in-Some.line) c.loop-seen.invariant.left (is_next left (g.L.Lines.left c.next.new.self) c.in_ok-line.field-0 c.in-Some.line c.in-Some.is c.in_ok-line.ensures.next) in
    omega (arith, one.less, c.loop-seen.invariant.groups, c.requires.room)

pub loop-seen-preserved : goal.loop-seen-preserved
loop-seen-preserved g c =
    let S = g.S.Shelf in
    let inv = c.loop-seen.invariant in
    let ensured = c.in_ok-watch_line.ensures in
    let all = g.L.Lines.left c.args.lines.now in
    let left = g.L.Lines.left c.loop-seen.lines in
    let after = g.L.Lines.left c.next.new.self in
    let line = named c.in-Some.line in
    let one = one_given all left after line inv.left (is_next left (g.L.Lines.left c.next.new.self) c.in_ok-line.field-0 c.in-Some.line c.in-Some.is c.in_ok-line.ensures.next) in
    let turn = rw c.as_slice.ensures at (c.in_ok-turn.ensures.turn (take (given all left) all) c.in-Some.line.command inv.seen) in
    let seen = rw c.as_slice.ensures at (c.in_ok-turn.ensures.seen (take (given all left) all) c.in-Some.line.command inv.seen) in
    let next = turn_given all left after line c.in_ok-turn.turn one turn in
    record {
      left = one.are;
      servable = All-tail (λ (l : NamedLine). IsServable l.1) line after (subst (All (λ (l : NamedLine). IsServable l.1)) (is_next left (g.L.Lines.left c.next.new.self) c.in_ok-line.field-0 c.in-Some.line c.in-Some.is c.in_ok-line.ensures.next) inv.servable);
      seen = seen_given all left after line c.next_turn.new.seen.items one seen;
      beside = record { key = ensured.beside.key ∙ inv.beside.key; abreast = ensured.beside.abreast; kept = ensured.beside.kept };
      groups = omega (arith, inv.groups, ensured.groups, one.one);
      seats = ensured.seats ∙ inv.seats;
      later = (omega (arith, inv.later.0, ensured.later.0), omega (arith, inv.later.1, ensured.later.1));
      readings = λ clocks. takes_more (2 * given all left) 2 _ (g.C.Clock.sees.upcoming c.args.serial.now.store.clock) (g.C.Clock.sees.upcoming c.loop-seen.serial.store.clock) (g.C.Clock.sees.upcoming c.watch_line.new.serial.store.clock) (inv.readings clocks) (ensured.readings clocks) (omega (arith, one.one));
      runs = λ tells origin follows.
          let so_far = inv.runs tells origin follows in
          let told = reads_with_key S.sees g.C.Clock.sees (origin_of so_far.clock origin.start origin.base) (faults_of S.sees c.loop-seen.serial.store.shelf c.watch_line.new.serial.store.shelf) so_far.holds.runs.answered c.loop-seen.saved.key c.args.saved.now.key inv.beside.key
          (record { session = c.in_ok-turn.turn.session; line = line }) (Ok c.in_ok-watch_line.field-0) (output_of g.O.Sink.sees c.loop-seen.out c.watch_line.new.out) c.loop-seen.serial c.watch_line.new.serial (ensured.runs tells (origin_of so_far.clock origin.start origin.base) so_far.holds.runs.answered so_far.holds.runs.follows) in
          subst (λ n. AtReadings g.C.Clock.sees.tells origin.clock (λ (clock : ℕ → ℕ). WatchesTo S.sees g.C.Clock.sees clock origin.start origin.base c.args.saved.now.key all g.O.Sink.sees.tells (g.O.Sink.sees.taken c.args.out.now) c.args.serial.now
          (S.sees.fault_count c.watch_line.new.serial.store.shelf) n (g.O.Sink.sees.taken c.watch_line.new.out) c.watch_line.new.serial)) (sym one.one)
          (line_goes_on S.sees g.C.Clock.sees origin.start origin.base c.args.saved.now.key all g.O.Sink.sees.tells (g.O.Sink.sees.taken c.args.out.now) c.args.serial.now origin.clock
          (S.sees.fault_count c.loop-seen.serial.store.shelf) (S.sees.fault_count c.watch_line.new.serial.store.shelf) (given all left) c.in_ok-turn.turn.session line (g.O.Sink.sees.taken c.loop-seen.out) (g.O.Sink.sees.taken c.watch_line.new.out)
          c.loop-seen.serial c.watch_line.new.serial next so_far c.watch_line.ensures.later.0 (inv.later.0, c.watch_line.ensures.later.0) c.in_ok-watch_line.field-0 told);
    }

-- ---- memory ends it before a line is begun

pub returns-in_err-line-clause-runs : goal.returns-in_err-line-clause-runs
returns-in_err-line-clause-runs g c = λ tells origin follows.
    let S = g.S.Shelf in
    let all = g.L.Lines.left c.args.lines.now in
    let left = g.L.Lines.left c.loop-seen.lines in
    let some = some_left left c.in_err-line.ensures.some in
    let one = one_given all left some.1 some.0 c.loop-seen.invariant.left some.2 in
    of_error (λ r. AtReadings g.C.Clock.sees.tells origin.clock (λ (clock : ℕ → ℕ). Watches S.sees g.C.Clock.sees (origin_of clock origin.start origin.base) (S.sees.fault_count c.loop-seen.serial.store.shelf) c.args.saved.now.key all r (output_of g.O.Sink.sees c.args.out.now c.loop-seen.out) c.args.serial.now c.loop-seen.serial))
    c.from_residual.result line_end.NoMemory c.from_residual.ensures.0 c.from_residual.ensures.1
    (readings_give (c.loop-seen.invariant.runs tells origin follows) (λ clock small told so_far. watches_unbegun S.sees g.C.Clock.sees clock origin.start origin.base c.args.saved.now.key all g.O.Sink.sees.tells (g.O.Sink.sees.taken c.args.out.now) c.args.serial.now
    (S.sees.fault_count c.loop-seen.serial.store.shelf) (S.sees.fault_count c.loop-seen.serial.store.shelf) (given all left) _ some.0 (g.O.Sink.sees.taken c.loop-seen.out) (g.O.Sink.sees.taken c.loop-seen.out)
    c.loop-seen.serial c.loop-seen.serial (first_given all left some.1 some.0 one) so_far (omega arith)))

pub returns-in_err-turn-clause-runs : goal.returns-in_err-turn-clause-runs
returns-in_err-turn-clause-runs g c = λ tells origin follows.
    let S = g.S.Shelf in
    let all = g.L.Lines.left c.args.lines.now in
    let left = g.L.Lines.left c.loop-seen.lines in
    let after = g.L.Lines.left c.next.new.self in
    let line = named c.in-Some.line in
    let one = one_given all left after line c.loop-seen.invariant.left (is_next left (g.L.Lines.left c.next.new.self) c.in_ok-line.field-0 c.in-Some.line c.in-Some.is c.in_ok-line.ensures.next) in
    of_error (λ r. AtReadings g.C.Clock.sees.tells origin.clock (λ (clock : ℕ → ℕ). Watches S.sees g.C.Clock.sees (origin_of clock origin.start origin.base) (S.sees.fault_count c.loop-seen.serial.store.shelf) c.args.saved.now.key all r (output_of g.O.Sink.sees c.args.out.now c.loop-seen.out) c.args.serial.now c.loop-seen.serial))
    c.from_residual-in_err-turn.result line_end.NoMemory c.from_residual-in_err-turn.ensures.0 c.from_residual-in_err-turn.ensures.1
    (readings_give (c.loop-seen.invariant.runs tells origin follows) (λ clock small told so_far. watches_unbegun S.sees g.C.Clock.sees clock origin.start origin.base c.args.saved.now.key all g.O.Sink.sees.tells (g.O.Sink.sees.taken c.args.out.now) c.args.serial.now
    (S.sees.fault_count c.loop-seen.serial.store.shelf) (S.sees.fault_count c.loop-seen.serial.store.shelf) (given all left) _ line (g.O.Sink.sees.taken c.loop-seen.out) (g.O.Sink.sees.taken c.loop-seen.out)
    c.loop-seen.serial c.loop-seen.serial (first_given all left after line one) so_far (omega arith)))

-- ---- a line ends it

pub returns-in_err-watch_line-clause-runs : goal.returns-in_err-watch_line-clause-runs
returns-in_err-watch_line-clause-runs g c = λ tells origin follows.
    let S = g.S.Shelf in
    let inv = c.loop-seen.invariant in
    let all = g.L.Lines.left c.args.lines.now in
    let left = g.L.Lines.left c.loop-seen.lines in
    let after = g.L.Lines.left c.next.new.self in
    let line = named c.in-Some.line in
    let one = one_given all left after line inv.left (is_next left (g.L.Lines.left c.next.new.self) c.in_ok-line.field-0 c.in-Some.line c.in-Some.is c.in_ok-line.ensures.next) in
    let turn = rw c.as_slice.ensures at (c.in_ok-turn.ensures.turn (take (given all left) all) c.in-Some.line.command inv.seen) in
    let next = turn_given all left after line c.in_ok-turn.turn one turn in
    let so_far = inv.runs tells origin follows in
    let told = reads_with_key S.sees g.C.Clock.sees (origin_of so_far.clock origin.start origin.base) (faults_of S.sees c.loop-seen.serial.store.shelf c.watch_line.new.serial.store.shelf) so_far.holds.runs.answered c.loop-seen.saved.key c.args.saved.now.key inv.beside.key
    (record { session = c.in_ok-turn.turn.session; line = line }) (Err c.in_err-watch_line.field-0.0) (output_of g.O.Sink.sees c.loop-seen.out c.watch_line.new.out) c.loop-seen.serial c.watch_line.new.serial (c.in_err-watch_line.ensures.runs tells (origin_of so_far.clock origin.start origin.base) so_far.holds.runs.answered so_far.holds.runs.follows) in
    of_error (λ r. AtReadings g.C.Clock.sees.tells origin.clock (λ (clock : ℕ → ℕ). Watches S.sees g.C.Clock.sees (origin_of clock origin.start origin.base) (S.sees.fault_count c.watch_line.new.serial.store.shelf) c.args.saved.now.key all r (output_of g.O.Sink.sees c.args.out.now c.watch_line.new.out) c.args.serial.now c.watch_line.new.serial))
    c.from_residual-in_err-watch_line.result c.in_err-watch_line.field-0.0 c.from_residual-in_err-watch_line.ensures.0 c.from_residual-in_err-watch_line.ensures.1
    (line_ends S.sees g.C.Clock.sees origin.start origin.base c.args.saved.now.key all g.O.Sink.sees.tells (g.O.Sink.sees.taken c.args.out.now) c.args.serial.now origin.clock
    (S.sees.fault_count c.loop-seen.serial.store.shelf) (S.sees.fault_count c.watch_line.new.serial.store.shelf) (given all left) c.in_ok-turn.turn.session line (g.O.Sink.sees.taken c.loop-seen.out) (g.O.Sink.sees.taken c.watch_line.new.out)
    c.loop-seen.serial c.watch_line.new.serial next so_far c.watch_line.ensures.later.0 (inv.later.0, c.watch_line.ensures.later.0) c.in_err-watch_line.field-0.0 told)

pub returns-in_err-watch_line-clause-readings : goal.returns-in_err-watch_line-clause-readings
returns-in_err-watch_line-clause-readings g c = λ clocks.
    let all = g.L.Lines.left c.args.lines.now in
    let left = g.L.Lines.left c.loop-seen.lines in
    let one = one_given all left (g.L.Lines.left c.next.new.self) (named c.in-Some.line) c.loop-seen.invariant.left (is_next left (g.L.Lines.left c.next.new.self) c.in_ok-line.field-0 c.in-Some.line c.in-Some.is c.in_ok-line.ensures.next) in
    takes_more (2 * given all left) 2 (2 * length all) (g.C.Clock.sees.upcoming c.args.serial.now.store.clock) (g.C.Clock.sees.upcoming c.loop-seen.serial.store.clock) (g.C.Clock.sees.upcoming c.watch_line.new.serial.store.clock) (c.loop-seen.invariant.readings clocks) (c.watch_line.ensures.readings clocks) (omega (arith, one.less))

-- ---- all are served

pub returns-clause-runs : goal.returns-clause-runs
returns-clause-runs g c = λ tells origin follows.
    let S = g.S.Shelf in
    let all = g.L.Lines.left c.args.lines.now in
    let left = g.L.Lines.left c.loop-seen.lines in
    let none = ap (λ (ls : List NamedLine). length ls) (is_none left (g.L.Lines.left c.next.new.self) c.in_ok-line.field-0 c.in_default.is c.in_ok-line.ensures.next) in
    readings_give (c.loop-seen.invariant.runs tells origin follows) (λ clock small told so_far.
    watches_all S.sees g.C.Clock.sees clock origin.start origin.base c.args.saved.now.key all g.O.Sink.sees.tells (g.O.Sink.sees.taken c.args.out.now) c.args.serial.now
    (S.sees.fault_count c.loop-seen.serial.store.shelf) (given all left) (g.O.Sink.sees.taken c.loop-seen.out) c.loop-seen.serial tt
    (omega (arith, none)) so_far)
