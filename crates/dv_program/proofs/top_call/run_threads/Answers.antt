use Rattle.std.proofs.Common.{◌≡◌, ap, subst, List, ℕ}
use Rattle.std.specs.Prelude.{Option, Some}
use Rattle.dv_model.specs.Counts.{Rose}
use Rattle.dv_formats.specs.Parsing.{parsed}
use Rattle.dv_serving.proofs.Readings.{readings_give}
use Rattle.dv_cli.specs.declared.words.Task.{Task}
use Rattle.dv_cli.specs.declared.words.Task.TheVariants as task
use Rattle.dv_cli.specs.Causes.{ComesFrom, Counts, counts_of}
use Rattle.dv_cli.specs.Endings.{Concludes}
use Rattle.dv_cli.specs.Tasks.{Reaches}
use Rattle.dv_cli.proofs.Statuses.{causes_of, comes_later, sink_cause}
use Rattle.dv_cli.proofs.Takes.{status_takes}
use Rattle.dv_cli.proofs.WholeRuns.{WellOr, ends_well, fault_is_told, start_is_served}
use Rattle.dv_cli.proofs.Told.{fault_told, told_by}
use Rattle.dv_program.proofs.top_call.run_threads.Given as given
use Rattle.dv_program.proofs.top_call.run_threads.Goals as goal

-- ---- behind the last line

module _ (g : given.Over) (c : goal.After-conclude-status g) where
  abbrev t : Option Task
  t = Some task.Run

  abbrev before : Counts
  before = counts_of (g.S.Shelf.sees.fault_count c.args.shelf) (g.I.Source.sees.fault_count c.args.script.now) (g.O.Sink.sees.fault_count c.args.out.now)

  abbrev now : Counts
  now = counts_of (g.S.Shelf.sees.fault_count c.run_script-end.result.shelf) (g.I.Source.sees.fault_count c.run_script-end.new.script) (g.O.Sink.sees.fault_count c.conclude-status.new.out)

  comes : ComesFrom before now c.run_script-end.result.end
  comes =
      comes_later before _ _ (g.O.Sink.sees.fault_count c.run_script-end.new.out) _ c.run_script-end.result.end
      c.conclude-status.ensures.later c.run_script-end.ensures.cause.cause

  sinks : c.conclude-status.result ≡ 7 → Rose before.output now.output
  sinks seven =
      sink_cause before
      (counts_of (g.S.Shelf.sees.fault_count c.run_script-end.result.shelf) (g.I.Source.sees.fault_count c.run_script-end.new.script) (g.O.Sink.sees.fault_count c.run_script-end.new.out))
      now.output c.run_script-end.result.end c.run_script-end.ensures.cause.cause c.run_script-end.ensures.cause.later.2
      c.conclude-status.ensures.later (c.conclude-status.ensures.cause seven)

  well : Reaches t g.I.Source.sees.tells (parsed (g.I.Source.sees.left c.args.script.now))
      → WellOr c.conclude-status.result c.run_script-end.result.end before now
  well reaches =
      ends_well c.conclude-status.result before now t g.I.Source.sees.tells (parsed (g.I.Source.sees.left c.args.script.now))
      c.run_script-end.result.end reaches c.run_script-end.ensures.ends.0 (λ run tells. (c.run_script-end.ensures.found.1 tells).0) comes c.conclude-status.ensures.status sinks

-- ---- what is answered, written and left

pub returns-clause-threads : goal.returns-clause-threads
returns-clause-threads g c = λ tells script_tells settled is_true lines good.
    readings_give (c.run_script-end.ensures.runs tells script_tells settled is_true lines good) (λ clock small known runs. record {
      how = c.run_script-end.result.end;
      between = g.O.Sink.sees.taken c.run_script-end.new.out;
      runs = runs;
      cause = comes g c;
      ended = c.conclude-status.ensures.status;
      concludes = λ told. c.conclude-status.ensures.text told;
    })

pub returns-clause-refused : goal.returns-clause-refused
returns-clause-refused g c = λ script_tells fault bad.
    let refused = c.run_script-end.ensures.refused script_tells fault bad in (
      refused.0,
      record {
        how = c.run_script-end.result.end;
        ends = refused.1;
        cause = comes g c;
        ended = c.conclude-status.ensures.status;
        concludes = λ told.
            subst (λ (taken : List ℕ). Concludes c.run_script-end.result.end c.conclude-status.result taken (g.O.Sink.sees.taken c.conclude-status.new.out))
            (ap g.O.Sink.sees.taken refused.2) (c.conclude-status.ensures.text told);
      },
      fault_told fault c.run_script-end.result.end _ c.run_script-end.result.told refused.1 (c.run_script-end.ensures.found.1 script_tells).1,
    )

-- ---- what it comes from

pub returns-clause-causes : goal.returns-clause-causes
returns-clause-causes g c = (
  told_by (t g c) c.run_script-end.result.end c.conclude-status.result c.run_script-end.result.told c.run_script-end.ensures.ends.0 c.conclude-status.ensures.status c.run_script-end.ensures.ends.1,
  causes_of c.conclude-status.result (t g c) (before g c) (now g c)
      (g.S.Shelf.sees.files c.args.shelf) (parsed (g.I.Source.sees.left c.args.script.now)) g.S.Shelf.sees.tells g.I.Source.sees.tells
      c.run_script-end.result.end c.conclude-status.ensures.status c.run_script-end.ensures.ends.0 (comes g c) (sinks g c)
      c.run_script-end.ensures.found.0 (λ run tells. (c.run_script-end.ensures.found.1 tells).0),
)

pub returns-clause-complete : goal.returns-clause-complete
returns-clause-complete g c = λ tells reaches.
    let folder = g.S.Shelf.sees.files c.args.shelf in
    let e = c.run_script-end.result.end in
    let status = c.conclude-status.result in
    let found = c.run_script-end.ensures.found.0 tells in
    record {
      fault = λ has. fault_is_told status (before g c) (now g c) folder e found has (well g c reaches);
      served = λ start used starts.
          start_is_served status (before g c) (now g c) (g.C.Clock.sees.upcoming c.args.clock) folder start used e found starts (well g c reaches);
    }

pub returns-clause-readings : goal.returns-clause-readings
returns-clause-readings g c = λ clock_tells.
    status_takes _ _ c.conclude-status.result c.run_script-end.result.end c.conclude-status.ensures.status (c.run_script-end.ensures.readings clock_tells)
