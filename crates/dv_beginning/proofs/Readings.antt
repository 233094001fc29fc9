-- How often the clock is read until a folder is opened.
use Rattle.std.proofs.Common.{◌≡◌, ℕ, Result, Ok, Err, ◌∙◌, arith}
use Rattle.std.specs.Prelude.{IfErr}
use Rattle.dv_model.specs.declared.types.OpenFault.{OpenFault}
use Rattle.dv_model.specs.declared.types.OpenFault.TheVariants as fault
use Rattle.dv_shelf.specs.Clocks.{behind}
use Rattle.dv_chain.specs.Openings.{IsOutside}
use Rattle.dv_serving.specs.Readings.{TakesUpTo}
use Rattle.dv_beginning.specs.Causes.{TakesForOpening}
use Rattle.dv_beginning.proofs.Starting.{behind_none}

pub takes_none : (most : ℕ) (old new : ℕ → ℕ) → new ≡ old → TakesUpTo most old new
takes_none most old new is = (0, omega arith, is ∙ behind_none old)

module _ {A : Type 0} (old new : ℕ → ℕ) where
  pub unread_opening : (result : Result A OpenFault) → new ≡ old → TakesForOpening old new result
  unread_opening (Ok x) same = takes_none 1 old new same
  unread_opening (Err (fault.Disk faults)) same = takes_none 1 old new same
  unread_opening (Err fault.NoMemory) same = takes_none 1 old new same
  unread_opening (Err fault.NoLog) same = same
  unread_opening (Err fault.BadLogHeader) same = same
  unread_opening (Err (fault.BadRecord offset)) same = same
  unread_opening (Err fault.BadIndex) same = same
  unread_opening (Err (fault.Gap index log)) same = same

  pub read_once : (result : Result A OpenFault) → new ≡ behind old 1 → IfErr result IsOutside → TakesForOpening old new result
  read_once (Ok x) is outside = (1, omega arith, is)
  read_once (Err (fault.Disk faults)) is outside = (1, omega arith, is)
  read_once (Err fault.NoMemory) is outside = (1, omega arith, is)
  read_once (Err fault.NoLog) is outside = absurd outside
  read_once (Err fault.BadLogHeader) is outside = absurd outside
  read_once (Err (fault.BadRecord offset)) is outside = absurd outside
  read_once (Err fault.BadIndex) is outside = absurd outside
  read_once (Err (fault.Gap index log)) is outside = absurd outside
