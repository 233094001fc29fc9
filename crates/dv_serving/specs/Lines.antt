-- The one line of a command that a store didn't serve.
use Rattle.std.specs.Prelude.{◌≡◌, List, [], ◌∷◌}
use Rattle.dv_model.specs.declared.types.Reply.{Reply}
use Rattle.dv_model.specs.declared.types.Reply.TheVariants as reply
use Rattle.dv_plans.specs.declared.fault.StoreFault.{StoreFault}
use Rattle.dv_plans.specs.declared.fault.StoreFault.TheVariants as fault

-- a limit that is met, or the disk's failure (RFC 5530, LIMIT and UNAVAILABLE); want of memory has
-- none
abbrev pub IsFaultLine : StoreFault → List Reply → Type 0
IsFaultLine (fault.Disk faults) lines = lines ≡ reply.Unavailable faults ∷ []
IsFaultLine fault.UidsUsedUp lines = lines ≡ reply.UidsUsedUp ∷ []
IsFaultLine (fault.TooLong bytes) lines = lines ≡ reply.TooLong bytes ∷ []
IsFaultLine fault.NoMemory lines = ⊥

-- that line
abbrev pub fault_lines : StoreFault → List Reply
fault_lines (fault.Disk faults) = reply.Unavailable faults ∷ []
fault_lines fault.UidsUsedUp = reply.UidsUsedUp ∷ []
fault_lines (fault.TooLong bytes) = reply.TooLong bytes ∷ []
fault_lines fault.NoMemory = []
