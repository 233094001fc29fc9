-- Want of memory as a shelf tells it.
use Rattle.std.specs.Prelude.{Result, Ok, Err}
use Rattle.dv_model.specs.declared.memory.NoMemory.{NoMemory}
use Rattle.dv_shelf.specs.declared.shelf.ShelfFault.{ShelfFault}
use Rattle.dv_shelf.specs.declared.shelf.ShelfFault.TheVariants as fault

-- the same answer
abbrev pub in_memory : {T : Type 0} → Result T NoMemory → Result T ShelfFault
in_memory (Ok x) = Ok x
in_memory (Err e) = Err fault.NoMemory
