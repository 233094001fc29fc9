use Rattle.std.proofs.Common.{◌≡◌}
use Rattle.dv_maps.specs.Tables.{all_listed}
use Rattle.dv_mdbox.proofs.Gathered.{front}
use Rattle.dv_mdbox.proofs.listing.file_table.Given as goal

abbrev pub invariant-loop-k : goal.invariant-loop-k
invariant-loop-k l = record {
  rows : l.rows.items ≡ all_listed (front l.live.mailbox l.k);
  extensions : l.extensions ≡ l.live.mailbox.extensions;
}
