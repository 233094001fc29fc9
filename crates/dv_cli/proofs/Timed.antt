-- How often the clock was read.
use Rattle.std.proofs.Common.{ℕ, ◌+◌, Err, ◌∙◌, ap, arith}
use Rattle.dv_model.specs.declared.types.OpenFault.{OpenFault}
use Rattle.dv_model.specs.declared.types.OpenFault.TheVariants as fault
use Rattle.dv_shelf.specs.Clocks.{behind}
use Rattle.dv_serving.specs.Readings.{TakesUpTo}
use Rattle.dv_cli.specs.Causes.{EndsServing, TakesForRun, most_readings}
use Rattle.dv_beginning.specs.Causes.{TakesForOpening}
use Rattle.dv_cli.specs.declared.ending.End.{End}
use Rattle.dv_cli.specs.declared.ending.End.TheVariants as end
use Rattle.dv_beginning.proofs.Starting.{behind_both}

-- ---- a run

-- what an opening took, and what the lines took
pub takes_both : (a b : ℕ) (old mid new : ℕ → ℕ) → TakesUpTo a old mid → TakesUpTo b mid new → TakesUpTo (a + b) old new
takes_both a b old mid new first second = (
  first.0 + second.0,
  omega (arith, first.1, second.1),
  second.2 ∙ ap (λ (clock : ℕ → ℕ). behind clock second.0) first.2 ∙ behind_both old first.0 second.0,
)

pub run_takes : (lines : ℕ) (old new : ℕ → ℕ) (e : End) → EndsServing e → TakesUpTo (most_readings lines) old new → TakesForRun lines old new e
run_takes lines old new (end.Answered mark groups loaded) serving takes = takes
run_takes lines old new (end.Rebuilt kept skipped) serving takes = absurd serving
run_takes lines old new end.Usage serving takes = absurd serving
run_takes lines old new (end.Unopened f) serving takes = absurd serving
run_takes lines old new end.NoMemory serving takes = takes
run_takes lines old new (end.Script fault) serving takes = absurd serving
run_takes lines old new (end.Source faults) serving takes = absurd serving
run_takes lines old new end.Sink serving takes = takes

-- the fault alone says how often
pub fault_takes : (A B : Type 0) (old new : ℕ → ℕ) (f : OpenFault) → TakesForOpening old new {A = A} (Err f) → TakesForOpening old new {A = B} (Err f)
fault_takes A B old new (fault.Disk faults) takes = takes
fault_takes A B old new fault.NoMemory takes = takes
fault_takes A B old new fault.NoLog takes = takes
fault_takes A B old new fault.BadLogHeader takes = takes
fault_takes A B old new (fault.BadRecord offset) takes = takes
fault_takes A B old new fault.BadIndex takes = takes
fault_takes A B old new (fault.Gap index log) takes = takes
