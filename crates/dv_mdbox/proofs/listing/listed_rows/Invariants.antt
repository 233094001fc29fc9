use Rattle.std.proofs.Common.{take}
use Rattle.dv_maps.specs.Purges.{all_mapped}
use Rattle.dv_maps.specs.Tables.{rows_in}
use Rattle.dv_mdbox.proofs.Listed.{AreOf}
use Rattle.dv_mdbox.proofs.listing.listed_rows.Given as goal

abbrev pub invariant-loop-row : goal.invariant-loop-row
invariant-loop-row l = AreOf l.file (take l.row-index (rows_in l.file (all_mapped l.live.mailbox))) l.found
