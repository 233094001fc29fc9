use Rattle.std.proofs.Common.{◌≡◌}
use Rattle.dv_mdbox.proofs.Gathered.{AreSoFar}
use Rattle.dv_mdbox.proofs.gathering.rows_of.Given as goal

abbrev pub invariant-loop-k : goal.invariant-loop-k
invariant-loop-k l = record {
  so : AreSoFar l.live.mailbox l.file l.k l.rows.kept.items l.rows.gone.items;
  extensions : l.extensions ≡ l.live.mailbox.extensions;
}
