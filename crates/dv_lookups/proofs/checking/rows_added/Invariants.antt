use Rattle.std.proofs.Common.{◌≡◌, length, take}
use Rattle.dv_files.specs.Reading.{mail_at}
use Rattle.dv_openings.specs.TrueCaches.{HasTrueCache}
use Rattle.dv_lookups.specs.Checks.{held_text}
use Rattle.dv_lookups.proofs.Renewing.{RowsTo}
use Rattle.dv_lookups.proofs.checking.rows_added.Given as goal

abbrev pub invariant-loop-k : goal.invariant-loop-k
invariant-loop-k g l = record {
  rows : g.S.Shelf.sees.tells → HasTrueCache (g.S.Shelf.sees.files l.initial.shelf) l.chain.indexid l.chain.live.mailbox
      → l.text ≡ held_text (mail_at (g.S.Shelf.sees.files l.initial.shelf)) (length l.chain.live.mailbox.rows) (take l.k l.chain.live.mailbox.rows);
  looks : RowsTo g.S.Shelf.sees l.chain l.k l.file l.initial.shelf l.shelf;
  faults : g.S.Shelf.sees.fault_count l.shelf ≡ g.S.Shelf.sees.fault_count l.initial.shelf;
}
