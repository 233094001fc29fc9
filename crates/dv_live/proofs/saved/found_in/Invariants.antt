use Rattle.std.proofs.Common.{◌≡◌, map, take, true}
use Rattle.dv_model.specs.declared.types.Key.{Key}
use Rattle.dv_model.specs.Views.{shown}
use Rattle.dv_search.specs.Sought.{IsReady}
use Rattle.dv_live.specs.Steadiness.{steady}
use Rattle.dv_live.proofs.Found.{found}
use Rattle.dv_live.proofs.saved.found_in.Given as goal

abbrev pub invariant-loop-k : goal.invariant-loop-k
invariant-loop-k l = (key : Key) → IsReady key l.sought → steady key ≡ true → l.uids.items ≡ found key l.live.mailbox.keywords (map shown (take l.k l.live.mailbox.rows))
