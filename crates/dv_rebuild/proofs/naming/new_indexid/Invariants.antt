use Rattle.std.proofs.Common.{◌≡◌, ◌≤◌, drop}
use Rattle.dv_openings.specs.Rebuilds.{new_indexid, raised_while}
use Rattle.dv_rebuild.proofs.naming.new_indexid.Given as goal

abbrev pub invariant-loop-one : goal.invariant-loop-one
invariant-loop-one l = record {
  is : new_indexid l.used l.now ≡ raised_while l.used (drop l._one-index l.used) l.n;
  some : 1 ≤ l.n;
}
