-- What a shelf's answer is for a store.
use Rattle.std.specs.Prelude.{ℕ, ⊤}
use Rattle.dv_shelf.specs.declared.shelf.ShelfFault.{ShelfFault}
use Rattle.dv_shelf.specs.declared.shelf.ShelfFault.TheVariants as shelf_fault
use Rattle.dv_plans.specs.declared.fault.StoreFault.{StoreFault}
use Rattle.dv_plans.specs.declared.fault.StoreFault.TheVariants as fault

-- a fault of the disk, with its count of faults, or want of memory
abbrev pub shelf_told : ℕ → ShelfFault → StoreFault
shelf_told faults shelf_fault.Failed = fault.Disk faults
shelf_told faults shelf_fault.NoMemory = fault.NoMemory

-- memory ran out, or the disk failed
abbrev pub IsFailure : StoreFault → Type 0
IsFailure fault.NoMemory = ⊤
IsFailure (fault.Disk faults) = ⊤
IsFailure e = ⊥
