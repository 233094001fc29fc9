use Rattle.std.proofs.Common.{◌≡◌, take}
use Rattle.dv_maps.specs.Purges.{size_of}
use Rattle.dv_mdbox.proofs.rewriting.size_of_texts.Given as goal

abbrev pub invariant-loop-row : goal.invariant-loop-row
invariant-loop-row l = l.size ≡ size_of (take l.row-index l.rows)
