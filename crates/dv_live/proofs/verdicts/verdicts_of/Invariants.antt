use Rattle.std.proofs.Common.{◌≡◌, map, take, true}
use Rattle.dv_model.specs.declared.types.Fresh.{Fresh}
use Rattle.dv_model.specs.declared.types.Key.{Key}
use Rattle.dv_search.specs.Sought.{IsReady}
use Rattle.dv_live.specs.declared.verdicts.Verdict.{Verdict}
use Rattle.dv_live.specs.Steadiness.{steady}
use Rattle.dv_live.specs.Turning.{verdict_of}
use Rattle.dv_live.proofs.verdicts.verdicts_of.Given as goal

abbrev pub invariant-loop-f : goal.invariant-loop-f
invariant-loop-f l = record {
  verdicts : (key : Key) → IsReady key l.sought → steady key ≡ true → l.made.items ≡ map (verdict_of key l.names) (take l.f-index l.fresh);
  uids : map (λ (v : Verdict). v.uid) l.made.items ≡ map (λ (f : Fresh). f.uid) (take l.f-index l.fresh);
}
