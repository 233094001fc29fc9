use Rattle.std.proofs.Common.{◌≡◌, ◌≤◌, ◌-◌, ◌++◌, length}
use Rattle.dv_cli.specs.Readings.{read_limit}
use Rattle.dv_cli.proofs.reading.read_script.Given as goal

abbrev pub invariant-loop-script : goal.invariant-loop-script
invariant-loop-script g l = record {
  size : length l.text ≤ read_limit;
  so_far : g.I.Source.sees.tells → g.I.Source.sees.left l.initial.script ≡ l.text ++ g.I.Source.sees.left l.script;
  later : g.I.Source.sees.fault_count l.initial.script ≤ g.I.Source.sees.fault_count l.script;
}

abbrev pub decreases-loop-script : goal.decreases-loop-script
decreases-loop-script g l = read_limit - length l.text
