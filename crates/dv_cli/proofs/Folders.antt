-- What an opening and the lines behind it say of a run.
use Rattle.std.proofs.Common.{ℕ, ◌≤◌, Err, arith}
use Rattle.dv_model.specs.declared.types.OpenFault.{OpenFault}
use Rattle.dv_model.specs.declared.types.OpenFault.TheVariants as fault
use Rattle.dv_chain.specs.Openings.{HasCause}
use Rattle.dv_cli.specs.Causes.{EndCause, EndsServing}
use Rattle.dv_cli.specs.declared.ending.End.{End}
use Rattle.dv_cli.specs.declared.ending.End.TheVariants as end

module _ (shelf mid shelf_now out out_now : ℕ) (later : shelf ≤ mid) where
  both_later : (mid ≤ shelf_now) × (out ≤ out_now) → (shelf ≤ shelf_now) × (out ≤ out_now)
  both_later counts = (omega (arith, later, counts.0), counts.1)

  -- the lines ended it
  pub end_later : (e : End) → EndsServing e → EndCause mid shelf_now out out_now e → EndCause shelf shelf_now out out_now e
  end_later (end.Answered mark groups loaded) serving is = record { later = both_later is.later; cause = tt }
  end_later (end.Rebuilt kept skipped) serving is = absurd serving
  end_later end.Usage serving is = absurd serving
  end_later (end.Unopened f) serving is = absurd serving
  end_later end.NoMemory serving is = record { later = both_later is.later; cause = tt }
  end_later (end.Script fault) serving is = absurd serving
  end_later (end.Source faults) serving is = absurd serving
  end_later end.Sink serving is = record { later = both_later is.later; cause = is.cause }

-- the folder isn't opened
pub unopened_cause : (A : Type 0) (shelf shelf_now out : ℕ) (f : OpenFault) → HasCause {A = A} shelf shelf_now (Err f) → EndCause shelf shelf_now out out (end.Unopened f)
unopened_cause A shelf shelf_now out (fault.Disk faults) is = record { later = (is.later, omega arith); cause = (is.rose.1, is.rose.0) }
unopened_cause A shelf shelf_now out fault.NoMemory is = record { later = (is.later, omega arith); cause = tt }
unopened_cause A shelf shelf_now out fault.NoLog is = record { later = (is.later, omega arith); cause = tt }
unopened_cause A shelf shelf_now out fault.BadLogHeader is = record { later = (is.later, omega arith); cause = tt }
unopened_cause A shelf shelf_now out (fault.BadRecord offset) is = record { later = (is.later, omega arith); cause = tt }
unopened_cause A shelf shelf_now out fault.BadIndex is = record { later = (is.later, omega arith); cause = tt }
unopened_cause A shelf shelf_now out (fault.Gap index log) is = record { later = (is.later, omega arith); cause = tt }
