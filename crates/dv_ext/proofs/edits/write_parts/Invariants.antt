use Rattle.std.proofs.Common.{◌≡◌, fold, take}
use Rattle.dv_model.specs.Effects.{written_over}
use Rattle.dv_ext.proofs.edits.write_parts.Given as goal

abbrev pub invariant-loop-part : goal.invariant-loop-part
invariant-loop-part l = l.header ≡ fold written_over l.fn.header (take l.part-index l.parts)
