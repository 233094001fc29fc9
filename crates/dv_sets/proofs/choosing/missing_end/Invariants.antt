use Rattle.std.proofs.Common.{◌≡◌, None, find, take}
use Rattle.dv_model.specs.Sets.{ends}
use Rattle.dv_sets.proofs.Chosen.{is_missing}
use Rattle.dv_sets.proofs.choosing.missing_end.Given as goal

abbrev pub invariant-loop-span : goal.invariant-loop-span
invariant-loop-span l = find (is_missing l.count) (ends l.count (take l.span-index l.set)) ≡ None
