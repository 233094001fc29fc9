-- How often the clock is read, by the form of a run.
use Rattle.std.specs.Prelude.{◌≡◌, ℕ}
use Rattle.dv_cli.specs.Causes.{TakesByEnd, TakesByStatus}
use Rattle.dv_cli.specs.declared.ending.End.{End}
use Rattle.dv_cli.specs.declared.ending.End.TheVariants as end
use Rattle.dv_model.specs.declared.types.OpenFault.TheVariants as fault
use Rattle.dv_program.specs.declared.form.Form.{Form}
use Rattle.dv_program.specs.declared.form.Form.TheVariants as form

-- so often it was read by a run that ended so, unless the disk ended it
abbrev pub TakesUnlessDisk : (ℕ → ℕ) → (ℕ → ℕ) → End → Type 0
TakesUnlessDisk old new e =
    ((faults : ℕ) → e ≡ end.Unopened (fault.Disk faults) → ⊥) → TakesByEnd old new e

-- The clock isn't read where the folder is refused, or the script is or can't be read.
pub record TakesWhereRefused (status : ℕ) (old new : ℕ → ℕ) : Type 0 where
  pub found : status ≡ 3 → new ≡ old
  pub script : status ≡ 5 → new ≡ old
  pub source : status ≡ 6 → new ≡ old

-- So it is of a POP3 session, which the disk may also fail behind the opening of its folder; by
-- other words the clock is read at most once where the disk fails before the first line.
abbrev pub TakesIn : Form → ℕ → (ℕ → ℕ) → (ℕ → ℕ) → Type 0
TakesIn form.Serial status old new = TakesByStatus status old new
TakesIn form.Threads status old new = TakesByStatus status old new
TakesIn form.Pop3 status old new = TakesWhereRefused status old new
