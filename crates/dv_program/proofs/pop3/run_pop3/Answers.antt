use Rattle.std.proofs.Common.{◌≡◌, ap, subst, take, List, ℕ}
use Rattle.std.specs.Prelude.{Option, Result, Some}
use Rattle.dv_model.specs.Counts.{Rose}
use Rattle.dv_formats.specs.Parsing.{ScriptFault}
use Rattle.dv_formats.specs.Scripts.{NamedLine}
use Rattle.dv_maildrop.specs.Scripts.{script_commands}
use Rattle.dv_serving.proofs.Readings.{readings_give}
use Rattle.dv_cli.specs.declared.words.Task.{Task}
use Rattle.dv_cli.specs.declared.words.Task.TheVariants as task
use Rattle.dv_cli.specs.Causes.{ComesFrom, Counts, counts_of}
use Rattle.dv_cli.specs.Endings.{Concludes}
use Rattle.dv_cli.specs.Readings.{read_limit}
use Rattle.dv_cli.specs.Tasks.{Reaches}
use Rattle.dv_cli.proofs.Statuses.{causes_of, comes_later, sink_cause}
use Rattle.dv_cli.proofs.WholeRuns.{WellOr, ends_well, fault_is_told, start_is_served}
use Rattle.dv_cli.proofs.Told.{fault_told, quiet_at, quiet_ends, told_by}
use Rattle.dv_program.specs.Forms.{without_commands}
use Rattle.dv_program.proofs.Maildrops.{refused_takes}
use Rattle.dv_program.proofs.pop3.run_pop3.Given as given
use Rattle.dv_program.proofs.pop3.run_pop3.Goals as goal

-- ---- behind the last line

module _ (g : given.Over) (c : goal.After-conclude-status g) where
  abbrev t : Option Task
  t = Some task.Run

  abbrev read : Result (List NamedLine) ScriptFault
  read = without_commands (script_commands (g.I.Source.sees.left c.args.script.now))

  abbrev before : Counts
  before = counts_of (g.S.Shelf.sees.fault_count c.args.shelf) (g.I.Source.sees.fault_count c.args.script.now) (g.O.Sink.sees.fault_count c.args.out.now)

  abbrev now : Counts
  now = counts_of (g.S.Shelf.sees.fault_count c.run_lines-end.result.shelf) (g.I.Source.sees.fault_count c.run_lines-end.new.script) (g.O.Sink.sees.fault_count c.conclude-status.new.out)

  comes : ComesFrom before now c.run_lines-end.result.end
  comes =
      comes_later before _ _ (g.O.Sink.sees.fault_count c.run_lines-end.new.out) _ c.run_lines-end.result.end
      c.conclude-status.ensures.later c.run_lines-end.ensures.cause.cause

  sinks : c.conclude-status.result ≡ 7 → Rose before.output now.output
  sinks seven =
      sink_cause before
      (counts_of (g.S.Shelf.sees.fault_count c.run_lines-end.result.shelf) (g.I.Source.sees.fault_count c.run_lines-end.new.script) (g.O.Sink.sees.fault_count c.run_lines-end.new.out))
      now.output c.run_lines-end.result.end c.run_lines-end.ensures.cause.cause c.run_lines-end.ensures.cause.later.2
      c.conclude-status.ensures.later (c.conclude-status.ensures.cause seven)

  well : Reaches t g.I.Source.sees.tells read → WellOr c.conclude-status.result c.run_lines-end.result.end before now
  well reaches =
      ends_well c.conclude-status.result before now t g.I.Source.sees.tells read
      c.run_lines-end.result.end reaches c.run_lines-end.ensures.ends.0 (λ run tells. c.run_lines-end.ensures.found.1 tells) comes c.conclude-status.ensures.status sinks

-- ---- what is answered, written and left

pub returns-clause-pops : goal.returns-clause-pops
returns-clause-pops g c = λ tells script_tells settled is_true lines good.
    readings_give (c.run_lines-end.ensures.runs tells script_tells settled is_true lines good) (λ clock small known runs. record {
      how = c.run_lines-end.result.end;
      between = g.O.Sink.sees.taken c.run_lines-end.new.out;
      runs = runs;
      cause = comes g c;
      ended = c.conclude-status.ensures.status;
      concludes = λ told. c.conclude-status.ensures.text told;
    })

pub returns-clause-refused : goal.returns-clause-refused
returns-clause-refused g c = λ script_tells fault bad.
    let e = c.run_lines-end.result.end in
    let refused = c.run_lines-end.ensures.refused script_tells fault bad in
    let front = take read_limit (g.I.Source.sees.left c.args.script.now) in (
      refused.0,
      record {
        how = e;
        ends = refused.1;
        cause = comes g c;
        ended = c.conclude-status.ensures.status;
        concludes = λ told.
            subst (λ (taken : List ℕ). Concludes e c.conclude-status.result taken (g.O.Sink.sees.taken c.conclude-status.new.out))
            (ap g.O.Sink.sees.taken refused.2) (c.conclude-status.ensures.text told);
      },
      fault_told fault e front c.run_lines-end.result.told refused.1 (quiet_ends front e c.run_lines-end.result.told c.run_lines-end.ensures.ends.1),
    )

-- ---- what it comes from

pub returns-clause-causes : goal.returns-clause-causes
returns-clause-causes g c =
    let e = c.run_lines-end.result.end in
    let told = c.run_lines-end.result.told in (
      told_by (t g c) e c.conclude-status.result told c.run_lines-end.ensures.ends.0 c.conclude-status.ensures.status (quiet_at e told c.run_lines-end.ensures.ends.1),
      causes_of c.conclude-status.result (t g c) (before g c) (now g c)
          (g.S.Shelf.sees.files c.args.shelf) (read g c) g.S.Shelf.sees.tells g.I.Source.sees.tells
          e c.conclude-status.ensures.status c.run_lines-end.ensures.ends.0 (comes g c) (sinks g c)
          c.run_lines-end.ensures.found.0 (λ run tells. c.run_lines-end.ensures.found.1 tells),
    )

pub returns-clause-complete : goal.returns-clause-complete
returns-clause-complete g c = λ tells reaches.
    let folder = g.S.Shelf.sees.files c.args.shelf in
    let e = c.run_lines-end.result.end in
    let status = c.conclude-status.result in
    let found = c.run_lines-end.ensures.found.0 tells in
    record {
      fault = λ has. fault_is_told status (before g c) (now g c) folder e found has (well g c reaches);
      served = λ start used starts.
          start_is_served status (before g c) (now g c) (g.C.Clock.sees.upcoming c.args.clock) folder start used e found starts (well g c reaches);
    }

pub returns-clause-readings : goal.returns-clause-readings
returns-clause-readings g c = λ clock_tells.
    refused_takes _ _ c.conclude-status.result c.run_lines-end.result.end c.conclude-status.ensures.status (c.run_lines-end.ensures.readings clock_tells)
