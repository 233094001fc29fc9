use Rattle.std.proofs.Common.{◌≡◌, take}
use Rattle.dv_responses.specs.Rows.{rows_at}
use Rattle.dv_lookups.specs.Lookups.{KnowsCache}
use Rattle.dv_lookups.specs.Reads.{damaged_of, lines_of, uids_of}
use Rattle.dv_lookups.proofs.Stepping.{LooksTo}
use Rattle.dv_lookups.proofs.cache_file.CacheFile.fetch_rows.Given as goal

abbrev pub invariant-loop-number : goal.invariant-loop-number
invariant-loop-number g l = record {
  lines : g.S.Shelf.sees.tells → KnowsCache (g.S.Shelf.sees.files l.initial.shelf) l.chain l.initial.self
      → l.lines ≡ g.R.Replies.with l.initial.lines (lines_of (g.S.Shelf.sees.files l.initial.shelf) l.chain.live.mailbox l.items (take l.number-index (rows_at l.rows l.numbers)));
  damaged : g.S.Shelf.sees.tells → KnowsCache (g.S.Shelf.sees.files l.initial.shelf) l.chain l.initial.self
      → l.damaged ≡ damaged_of (g.S.Shelf.sees.files l.initial.shelf) l.chain.live.mailbox (take l.number-index (uids_of (rows_at l.rows l.numbers)));
  looks : LooksTo g.S.Shelf.sees l.chain l.asked (uids_of (rows_at l.rows l.numbers)) l.number-index l.initial.self l.self l.initial.shelf l.shelf;
  faults : g.S.Shelf.sees.fault_count l.shelf ≡ g.S.Shelf.sees.fault_count l.initial.shelf;
}
