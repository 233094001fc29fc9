use Rattle.std.proofs.Common.{◌≡◌, take}
use Rattle.dv_model.specs.declared.types.Key.{Key}
use Rattle.dv_model.specs.Sets.{numbered}
use Rattle.dv_search.specs.Sought.{IsSought}
use Rattle.dv_responses.specs.Asked.{SearchAsks}
use Rattle.dv_lookups.specs.Lookups.{KnowsCache}
use Rattle.dv_lookups.specs.Reads.{damaged_of, numbers_found, uids_of}
use Rattle.dv_lookups.proofs.Stepping.{LooksTo}
use Rattle.dv_lookups.proofs.cache_file.CacheFile.search_rows.Given as goal

abbrev pub invariant-loop-s : goal.invariant-loop-s
invariant-loop-s g l = record {
  counted : l.number ≡ l.s-index;
  numbers : g.S.Shelf.sees.tells → KnowsCache (g.S.Shelf.sees.files l.initial.shelf) l.chain l.initial.self
      → (k : Key) → IsSought k l.view l.sought → SearchAsks k l.asked
      → l.picked.numbers ≡ numbers_found (g.S.Shelf.sees.files l.initial.shelf) l.chain.live.mailbox k l.view l.by_uid (take l.s-index (numbered l.view));
  damaged : g.S.Shelf.sees.tells → KnowsCache (g.S.Shelf.sees.files l.initial.shelf) l.chain l.initial.self
      → l.picked.damaged ≡ damaged_of (g.S.Shelf.sees.files l.initial.shelf) l.chain.live.mailbox (take l.s-index (uids_of (numbered l.view)));
  looks : LooksTo g.S.Shelf.sees l.chain l.asked (uids_of (numbered l.view)) l.s-index l.initial.self l.self l.initial.shelf l.shelf;
  faults : g.S.Shelf.sees.fault_count l.shelf ≡ g.S.Shelf.sees.fault_count l.initial.shelf;
}
