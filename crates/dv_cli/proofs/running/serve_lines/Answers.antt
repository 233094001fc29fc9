use Rattle.std.proofs.Common.{ℕ, refl, arith}
use Rattle.dv_shelf.specs.Clocks.{behind}
use Rattle.dv_serial.specs.Following.{origin_of}
use Rattle.dv_cli.proofs.Served.{serves_all, serves_none}
use Rattle.dv_cli.proofs.running.serve_lines.Goals as goal

pub returns-in_default-clause-runs : goal.returns-in_default-clause-runs
returns-in_default-clause-runs g c = λ tells clock old small begun base later.
    let S = g.S.Shelf in
    let shelf = c.args.store.shelf in
    rw c.unserved.ensures (record {
      clock = clock;
      small = small;
      told = λ reads n. refl;
      holds = serves_none S.sees g.C.Clock.sees clock old c.args.store begun base c.args.load (S.sees.fault_count shelf) later (g.L.Lines.left c.args.lines.now) g.O.Sink.sees.tells (g.O.Sink.sees.taken c.args.out.now)
          (g.met.S.Shelf.leaves_files shelf tells) (λ f left. g.met.S.Shelf.only_now shelf f tells left);
    })

pub returns-clause-runs : goal.returns-clause-runs
returns-clause-runs g c = λ tells clock old small begun base later.
    let S = g.S.Shelf in
    let O = g.O.Sink in
    let served = c.serve_lines-served in
    let new = c.serve_lines-served.new.self in
    rw (c.end_behind-end.ensures, c.loaded_by-loaded.ensures, c.mark.ensures, c.count.ensures, c.parts-shelf.ensures)
    (serves_all S.sees g.C.Clock.sees clock old c.args.store begun base c.args.load small S.sees.fault_count later (S.sees.fault_count new.store.shelf) (g.L.Lines.left c.args.lines.now) O.sees.tells (O.sees.taken c.args.out.now)
    (O.sees.taken served.new.out) c.args.sessions c.in-Ok.seats served.result c.new-serial.result new c.in-Ok.ensures c.new-serial.ensures
    (λ follows. served.ensures.runs tells (origin_of (behind clock begun.used) begun.start base) follows) (g.met.S.Shelf.leaves_files new.store.shelf tells) (λ stayed rose. stayed (omega (arith, later, rose))))
