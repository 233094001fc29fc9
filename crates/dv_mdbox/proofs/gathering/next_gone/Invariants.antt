use Rattle.std.proofs.Common.{◌≡◌}
use Rattle.dv_mdbox.proofs.Gathered.{IsLeast, front}
use Rattle.dv_mdbox.proofs.gathering.next_gone.Given as goal

abbrev pub invariant-loop-k : goal.invariant-loop-k
invariant-loop-k l = record {
  least : IsLeast l.from (front l.live.mailbox l.k) l.least;
  extensions : l.extensions ≡ l.live.mailbox.extensions;
}
