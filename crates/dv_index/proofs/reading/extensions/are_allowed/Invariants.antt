use Rattle.std.proofs.Common.{All, take}
use Rattle.dv_index.specs.Reading.{IsAllowed}
use Rattle.dv_index.proofs.reading.extensions.are_allowed.Given as goal

abbrev pub invariant-loop-extension : goal.invariant-loop-extension
invariant-loop-extension l = All IsAllowed (take l.extension-index l.extensions)
