-- Whether a command writes anything, by the limit that it meets first and its group.
use Rattle.std.specs.Prelude.{◌≡◌, ◌≤◌, [], length, Option, Some, None, Result, Ok, Err, ⊤}
use Rattle.dv_model.specs.declared.types.Group.{Group}
use Rattle.dv_model.specs.declared.types.Reply.{Reply}
use Rattle.dv_model.specs.declared.types.Reply.TheVariants as reply
use Rattle.dv_plans.specs.declared.fault.StoreFault.{StoreFault}
use Rattle.dv_plans.specs.declared.fault.StoreFault.TheVariants as fault

-- no limit is met, and the group has records
abbrev pub IsWritten : Option Reply → Group → Type 0
IsWritten limit group = (limit ≡ None) × (1 ≤ length group.records)

-- A limit is answered exactly where it is met, and None exactly where the group has no record, but
-- where memory runs out.
abbrev pub Decides : {A : Type 0} → Option Reply → Group → Result (Option A) StoreFault → Type 0
Decides limit group (Ok None) = (limit ≡ None) × (group.records ≡ [])
Decides limit group (Ok (Some x)) = IsWritten limit group
Decides limit group (Err fault.UidsUsedUp) = limit ≡ Some reply.UidsUsedUp
Decides limit group (Err (fault.TooLong bytes)) = limit ≡ Some (reply.TooLong bytes)
Decides limit group (Err (fault.Disk faults)) = IsWritten limit group
Decides limit group (Err fault.NoMemory) = ⊤

-- A limit is answered exactly where it is met first, but where memory runs out.
abbrev pub MeetsLimit : {A : Type 0} → Option Reply → Result A StoreFault → Type 0
MeetsLimit limit (Err fault.UidsUsedUp) = limit ≡ Some reply.UidsUsedUp
MeetsLimit limit (Err (fault.TooLong bytes)) = limit ≡ Some (reply.TooLong bytes)
MeetsLimit limit (Err fault.NoMemory) = ⊤
MeetsLimit limit r = limit ≡ None

-- a limit is met, or the group has no record
abbrev pub WhereDecided : {A : Type 0} → Result (Option A) StoreFault → Type 0 → Type 0
WhereDecided (Ok None) P = P
WhereDecided (Err fault.UidsUsedUp) P = P
WhereDecided (Err (fault.TooLong bytes)) P = P
WhereDecided r P = ⊤
