-- A run that writes no replies, whatever stands in the output.
use Rattle.std.proofs.Common.{ℕ, List}
use Rattle.std.specs.Prelude.{Option}
use Rattle.dv_formats.specs.Scripts.{NamedLine}
use Rattle.dv_serving.specs.Outputs.{output_with}
use Rattle.dv_cli.specs.declared.ending.End.{End}
use Rattle.dv_cli.specs.declared.ending.End.TheVariants as end
use Rattle.dv_cli.specs.declared.words.Load.{Load}
use Rattle.dv_cli.specs.Runs.{RunsOver, ServesLines}
use Rattle.dv_cli.specs.Spans.{times_with}
use Rattle.dv_shelf.specs.Sees.{SeesFolder}

module _ {S : Type 0} (sees : SeesFolder S) (timed : Type 0) (clock clock_now : ℕ → ℕ) (base faults : ℕ) (load : Option Load) (lines : List NamedLine) (old new : S) (a b c d : List ℕ) where
  abbrev Serves : End → List ℕ → List ℕ → Type 0
  Serves e before now = ServesLines sees (times_with timed clock clock_now) (record { before = base; now = faults }) load lines e (output_with ⊥ before now) old new

  abbrev Runs : End → List ℕ → List ℕ → Type 0
  Runs e before now = RunsOver sees (times_with timed clock clock_now) (record { before = base; now = faults }) load lines e (output_with ⊥ before now) old new

  served : (e : End) → Serves e a b → Serves e c d
  served e s = record {
    start = s.start;
    used = s.used;
    starts = s.starts;
    answered = s.answered;
    left = s.left;
    rest = s.rest;
    parts = s.parts;
    ends = s.ends;
    serial = s.serial;
    clients = s.clients;
    may = s.may;
    failures = s.failures;
    whole = s.whole;
    output = λ told. absurd told;
    readings = s.readings;
    others = s.others;
    folder = s.folder;
    after = s.after;
    crash = s.crash;
    opens = s.opens;
    next = s.next;
    settled = s.settled;
  }

  pub ran : (e : End) → Runs e a b → Runs e c d
  ran (end.Answered mark groups loaded) runs = served (end.Answered mark groups loaded) runs
  ran (end.Rebuilt kept skipped) runs = served (end.Rebuilt kept skipped) runs
  ran end.Usage runs = served end.Usage runs
  ran (end.Unopened f) runs = (λ told. absurd told, runs.1)
  ran end.NoMemory runs = served end.NoMemory runs
  ran (end.Script s) runs = served (end.Script s) runs
  ran (end.Source n) runs = served (end.Source n) runs
  ran end.Sink runs = served end.Sink runs
