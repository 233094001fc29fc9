use Rattle.std.proofs.Common.{◌≡◌, drop}
use Rattle.std.specs.Prelude.{bytes_eq}
use Rattle.dv_interleavings.specs.Worlds.{same_items}
use Rattle.dv_world.proofs.same.same_names.Given as goal

abbrev pub invariant-loop-i : goal.invariant-loop-i
invariant-loop-i l = same_items bytes_eq l.one l.other ≡ same_items bytes_eq (drop l.i l.one) (drop l.i l.other)
