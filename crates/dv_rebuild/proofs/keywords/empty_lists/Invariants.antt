use Rattle.dv_rebuild.specs.Keywords.{AreEmpty}
use Rattle.dv_rebuild.proofs.keywords.empty_lists.Given as goal

abbrev pub invariant-loop-k : goal.invariant-loop-k
invariant-loop-k l = AreEmpty l._k l.lists.items
