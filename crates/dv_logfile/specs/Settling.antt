-- What calls leave of a shelf that was settled.
use Rattle.dv_shelf.specs.Causes.{Stayed}
use Rattle.dv_shelf.specs.Crashes.{IsSettled}
use Rattle.dv_shelf.specs.Sees.{SeesFolder}

-- Where a shelf was settled, and its count of faults didn't rise, it is settled again: a crash then
-- leaves the files as they are and nothing else.
abbrev pub StaysSettled : {S : Type 0} → SeesFolder S → S → S → Type 0
StaysSettled sees old new =
    Stayed (sees.fault_count old) (sees.fault_count new) → IsSettled sees old → IsSettled sees new
