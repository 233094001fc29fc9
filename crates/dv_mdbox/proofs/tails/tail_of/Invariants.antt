use Rattle.std.proofs.Common.{◌≡◌, take}
use Rattle.dv_mdbox.specs.Tails.{IsTailOf}
use Rattle.dv_mdbox.proofs.tails.tail_of.Given as goal

abbrev pub invariant-loop-k : goal.invariant-loop-k
invariant-loop-k l = record {
  tail : IsTailOf l.live.mailbox (take l.k l.live.mailbox.rows) l.tail;
  extensions : l.extensions ≡ l.live.mailbox.extensions;
}
