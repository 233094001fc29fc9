-- Where a group begins, and which readings of the clock come before it.
use Rattle.std.specs.Prelude.{◌≡◌, ◌⊎◌, ◌+◌, ◌&&◌, ℕ, Bool, true, false, Option, Some, IfSome, is_none, Result, Ok, Err}
use Rattle.dv_model.specs.declared.types.Command.{Command}
use Rattle.dv_model.specs.declared.types.Mark.{Mark}
use Rattle.dv_model.specs.Journals.{IsU32, is_rotation_due}
use Rattle.dv_model.specs.Sessions.{is_append}
use Rattle.dv_shelf.specs.Clocks.{behind}
use Rattle.dv_chain.specs.declared.chain.Chain.{Chain}
use Rattle.dv_chain.specs.Rest.{next_mark}
use Rattle.dv_files.specs.declared.texts.Turn.{Turn}
use Rattle.dv_files.specs.Texts.{next_log, place_of}
use Rattle.dv_plans.specs.declared.fault.StoreFault.{StoreFault}
use Rattle.dv_plans.specs.declared.fault.StoreFault.TheVariants as fault

-- at the end of the log, or at the first place of the next file
abbrev pub beginning : Bool → Chain → Mark
beginning false chain = place_of chain
beginning true chain = next_mark chain

-- a rotation comes before the group: the log is long, and none is owed
abbrev pub turns : Option Turn → Chain → Bool
turns owed chain = is_none owed && is_rotation_due true (place_of chain)

-- one reading, or none
abbrev pub count_of : Bool → ℕ
count_of true = 1
count_of false = 0

-- one for a rotation, and then one for a message
abbrev pub readings_of : Command → Option Turn → Chain → ℕ
readings_of c owed chain = count_of (turns owed chain) + count_of (is_append c)

-- that for a message, by the readings to come
abbrev pub received_at : Bool → (ℕ → ℕ) → ℕ
received_at turns upcoming = upcoming (count_of turns)

-- there is a reading of 32 bits, which is this one where the clock tells, with which this holds
pub record AtReading (tells : Type 0) (reading : ℕ) (Holds : ℕ → Type 0) : Type 0 where
  pub at : ℕ
  pub small : IsU32 at
  pub clock : tells → at ≡ reading
  pub is : Holds at

-- the new log of a rotation is made at the time that was read for it
abbrev pub IsMadeAt : Chain → Option ℕ → Option Turn → Type 0
IsMadeAt chain time made =
    IfSome made (λ turn. IfSome time (λ now. turn.new ≡ next_log chain now))

-- so many readings are behind, where a group is made ready, or a file couldn't be read for it; else
-- none or as many
abbrev pub TakesReadings : {A : Type 0} → ℕ → (ℕ → ℕ) → (ℕ → ℕ) → Result (Option A) StoreFault
    → Type 0
TakesReadings n old new (Ok (Some x)) = new ≡ behind old n
TakesReadings n old new (Err (fault.Disk faults)) = new ≡ behind old n
TakesReadings n old new r = (new ≡ old) ⊎ (new ≡ behind old n)
