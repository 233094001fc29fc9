use Rattle.std.proofs.Common.{◌≡◌, Some, sym}
use Rattle.dv_openings.specs.TrueCaches.{look_of}
use Rattle.dv_lookups.specs.Finds.{IsFoundIn, bytes_of}
use Rattle.dv_lookups.specs.Kept.{IsLookedUp}
use Rattle.dv_lookups.specs.Looks.{look_seen}
use Rattle.dv_lookups.proofs.Looked.{found_there}
use Rattle.dv_lookups.proofs.Rows.{if_ok}
use Rattle.dv_lookups.proofs.cache_file.CacheFile.known_of.Goals as goal

pub returns-clause-found : goal.returns-clause-found
returns-clause-found g c = λ told same looks.
    let folder = g.S.Shelf.sees.files c.args.shelf.now in
    let m = c.args.chain.now.live.mailbox in
    let row = c.args.row.now in
    let file = c.load.new.self in
    let asked : look_of m row ≡ Some (look_seen c.in-Some.look) = sym c.in-Some.ensures in
    if_ok (IsFoundIn (bytes_of file) c.args.chain.now.indexid (look_seen c.in-Some.look) row.uid) (IsLookedUp folder c.args.chain.now.indexid m row) c.known_at.result
    (λ o found. found_there folder c.args.chain.now.indexid m row (look_seen c.in-Some.look) asked file o (c.load.ensures.file told same) c.in_ok-load.ensures.read found) c.known_at.ensures.found
