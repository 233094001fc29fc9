use Rattle.std.proofs.Common.{◌≡◌, ℕ, length, refl, sym, ◌∙◌, ap, subst, arith}
use Rattle.std.proofs.lemmas.List.{length-replicate}
use Rattle.dv_model.specs.declared.types.Key.{Key}
use Rattle.dv_shelf.specs.Clocks.{behind}
use Rattle.dv_answer.specs.Following.{new_follower}
use Rattle.dv_serving.specs.Outputs.{output_of}
use Rattle.dv_serving.specs.Readings.{AtReadings}
use Rattle.dv_serial.specs.Following.{origin_of}
use Rattle.dv_serial.specs.Servings.{Serving}
use Rattle.dv_watching.specs.Watching.{IsBeside, Watches}
use Rattle.dv_beginning.proofs.Readings.{takes_none}
use Rattle.dv_cli.proofs.Watched.{none_beside, watches_all}
use Rattle.dv_cli.proofs.watching.serve_beside.Goals as goal

pub begin-requires-clause-steady : goal.begin-requires-clause-steady
begin-requires-clause-steady g c = c.requires.kept.follows

pub begin-requires-clause-shallow : goal.begin-requires-clause-shallow
begin-requires-clause-shallow g c = c.requires.kept.shallow

pub watch_lines-served-requires-clause-seats : goal.watch_lines-served-requires-clause-seats
watch_lines-served-requires-clause-seats g c =
    ap (λ (s : Serving _ _). length s.seats) c.in-Ok.ensures.sessions ∙ length-replicate c.args.sessions new_follower ∙ c.requires.sessions

pub watch_lines-served-requires-clause-beside : goal.watch_lines-served-requires-clause-beside
watch_lines-served-requires-clause-beside g c =
    subst (λ (k : Key). IsBeside k c.in-Ok.serial c.in-Ok.saved) (sym c.in-Ok.ensures.beside.key) c.in-Ok.ensures.beside

pub watch_lines-served-requires-clause-room : goal.watch_lines-served-requires-clause-room
watch_lines-served-requires-clause-room g c = omega (arith, ap (λ (s : Serving _ _). s.groups) c.in-Ok.ensures.sessions, c.requires.few)

pub returns-in-Ok-clause-runs : goal.returns-in-Ok-clause-runs
returns-in-Ok-clause-runs g c = λ tells clock old small begun base later.
    let S = g.S.Shelf in
    let C = g.C.Clock in
    let O = g.O.Sink in
    let served = c.watch_lines-served in
    let new = served.new.serial in
    let lines = g.L.Lines.left c.args.lines.now in
    let out = output_of O.sees c.args.out.now served.new.out in
    rw (c.end_behind-end.ensures, c.mark.ensures, c.count.ensures, c.parts-shelf.ensures)
    (watches_all S.sees C.sees clock old c.args.store begun base c.args.key c.requires.kept.follows c.told_is_searched.ensures small S.sees.fault_count later (S.sees.fault_count new.store.shelf) lines O.sees.tells (O.sees.taken c.args.out.now)
    (O.sees.taken served.new.out) c.args.sessions served.result c.in-Ok.serial new c.in-Ok.ensures.sessions
    (λ follows.
    subst (λ (k : Key). AtReadings C.sees.tells (behind clock begun.used) (λ (now : ℕ → ℕ). Watches S.sees C.sees (origin_of now begun.start base) (S.sees.fault_count new.store.shelf) k lines served.result out c.in-Ok.serial new)) c.in-Ok.ensures.beside.key
    (served.ensures.runs tells (origin_of (behind clock begun.used) begun.start base) follows))
    (g.met.S.Shelf.leaves_files new.store.shelf tells) (λ stayed rose. stayed (omega (arith, later, rose))))

pub returns-in-Err-clause-runs : goal.returns-in-Err-clause-runs
returns-in-Err-clause-runs g c = λ tells clock old small begun base later.
    let S = g.S.Shelf in
    let shelf = c.args.store.shelf in
    let same : c.in-Err.shelf ≡ shelf = ap (λ (p : _ × _). p.0) c.in-Err.ensures.err in
    let ticks : c.in-Err.clock ≡ c.args.store.clock = ap (λ (p : _ × _). p.1) c.in-Err.ensures.err in
    rw (same, ticks) (record {
      clock = clock;
      small = small;
      told = λ reads n. refl;
      holds = none_beside S.sees g.C.Clock.sees clock old c.args.store begun base c.args.key c.requires.kept.follows c.told_is_searched.ensures (g.L.Lines.left c.args.lines.now) g.O.Sink.sees.tells (g.O.Sink.sees.taken c.args.out.now) (S.sees.fault_count shelf) later
          (g.met.S.Shelf.leaves_files shelf tells) (λ f left. g.met.S.Shelf.only_now shelf f tells left);
    })

pub returns-in-Err-clause-readings : goal.returns-in-Err-clause-readings
returns-in-Err-clause-readings g c = λ timed.
    takes_none _ _ _ (ap (λ (p : _ × _). g.C.Clock.sees.upcoming p.1) c.in-Err.ensures.err)
