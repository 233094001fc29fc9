use Rattle.std.proofs.Common.{◌≡◌, All, take}
use Rattle.dv_live.specs.declared.verdicts.Verdict.{Verdict}
use Rattle.dv_live.specs.Turning.{has_uid}
use Rattle.dv_live.proofs.merging.changes.Given as goal

abbrev pub invariant-loop-v : goal.invariant-loop-v
invariant-loop-v l = All (λ (v : Verdict). v.met ≡ has_uid l.uids v.uid) (take l.v-index l.verdicts)
