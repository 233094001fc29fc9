use Rattle.std.proofs.Common.{take}
use Rattle.dv_rebuild.specs.Keywords.{Notes}
use Rattle.dv_rebuild.proofs.keywords.note.Given as goal

abbrev pub invariant-loop-place : goal.invariant-loop-place
invariant-loop-place l = Notes l.uid (take l.place-index l.places) l.initial.lists l.lists
