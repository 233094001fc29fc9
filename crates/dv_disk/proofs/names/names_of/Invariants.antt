use Rattle.std.proofs.Common.{take}
use Rattle.dv_disk.specs.Names.{AreNamesOf}
use Rattle.dv_disk.proofs.names.names_of.Given as goal

-- the names among the entries so far
abbrev pub invariant-loop-entry : goal.invariant-loop-entry
invariant-loop-entry l = AreNamesOf (take l.entry-index l.entries) l.names
