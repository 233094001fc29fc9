use Rattle.std.proofs.Common.{◌≡◌, ◌++◌, drop}
use Rattle.dv_live.specs.Turning.{RiseFrom, turned}
use Rattle.dv_live.proofs.merging.merged.Given as goal

abbrev pub invariant-loop-v : goal.invariant-loop-v
invariant-loop-v l = record {
  rising : RiseFrom 0 l.rest;
  parts : l.made.items ++ turned l.rest (drop l.v-index l.verdicts) ≡ turned l.uids l.verdicts;
}
