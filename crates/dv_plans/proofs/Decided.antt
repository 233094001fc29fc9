-- A limit that is met is told.
use Rattle.std.proofs.Common.{◌≡◌, Option, Some, None, Err, sym}
use Rattle.std.specs.Prelude.{option_map}
use Rattle.dv_model.specs.declared.types.Group.{Group}
use Rattle.dv_model.specs.declared.types.Reply.{Reply}
use Rattle.dv_groups.specs.declared.limits.Limit.{Limit}
use Rattle.dv_groups.specs.declared.limits.Limit.TheVariants as limits
use Rattle.dv_groups.specs.Limits.{reply_of}
use Rattle.dv_files.specs.declared.fault.ChainFault.{ChainFault}
use Rattle.dv_files.specs.declared.fault.ChainFault.TheVariants as chain_fault
use Rattle.dv_plans.specs.declared.fault.StoreFault.{StoreFault}
use Rattle.dv_plans.specs.declared.fault.StoreFault.TheVariants as faults
use Rattle.dv_plans.specs.Faults.{chain_told, limit_told}
use Rattle.dv_plans.specs.Limits.{Decides, MeetsLimit}

pub limit_decided : (A : Type 0) (limit : Limit) (met : Option Reply) (group : Group) → option_map reply_of (Some limit) ≡ met → Decides {A = A} met group (Err (limit_told limit))
limit_decided A limits.UidsUsedUp met group is = sym is
limit_decided A (limits.TooLong bytes) met group is = sym is

-- an error is passed on
pub passed_decided : (A B : Type 0) (met : Option Reply) (group : Group) (e : StoreFault) → Decides {A = A} met group (Err e) → Decides {A = B} met group (Err e)
passed_decided A B met group faults.UidsUsedUp is = is
passed_decided A B met group (faults.TooLong bytes) is = is
passed_decided A B met group (faults.Disk count) is = is
passed_decided A B met group faults.NoMemory is = is

-- a fault of the disk or of memory, where no limit is met
pub meets_told : (A : Type 0) (met : Option Reply) (e : ChainFault) → met ≡ None → MeetsLimit {A = A} met (Err (chain_told e))
meets_told A met (chain_fault.Disk count) none = none
meets_told A met chain_fault.NoMemory none = tt
