use Rattle.std.proofs.Common.{rules, ◌≡◌, ◌∙◌, ◌+◌, ◌*◌, ◌<◌, List, [], ◌∷◌, ◌++◌, length, take, ap, arith, subst, sym}
use Rattle.dv_cache.specs.declared.row.CacheRow.{CacheRow}
use Rattle.dv_cache.specs.Begun.{begun}
use Rattle.dv_openings.specs.TrueCaches.{HasTrueCache}
use Rattle.dv_files.specs.Reading.{mail_at}
use Rattle.dv_shelf.specs.Folders.{Folder}
use Rattle.dv_lookups.specs.Checks.{held_row, held_rows}
use Rattle.dv_lookups.specs.Kept.{IsFileOf}
use Rattle.dv_lookups.proofs.Holding.{rows_more}
use Rattle.dv_lookups.proofs.Renewing.{most_rows, row_added, row_at, spared_rows}
use Rattle.dv_lookups.proofs.checking.rows_added.Goals as goal

pub cache_row-requires : goal.cache_row-requires
cache_row-requires g c = record { row = row_at c.args.chain.now.live.mailbox c.requires.valid.rising c.loop-k.k c.row.result.now c.row.ensures }

pub loop-k-preserved : goal.loop-k-preserved
loop-k-preserved g c =
    let S = g.S.Shelf in
    let folder = S.sees.files c.args.shelf.now in
    let chain = c.args.chain.now in
    let m = chain.live.mailbox in
    let first = 32 + 16 * length m.rows in
    let k = c.loop-k.k in
    let inv = c.loop-k.invariant in
    let made = c.in_ok-row.row in
    let row = c.row.result.now in
    let less : k < length m.rows = omega (arith, c.loop-k-test.true, c.count-k-end.ensures) in
    record {
      rows = λ told true_cache.
          let still = (inv.looks.looks told).same in
          let same = sym still in
          let held : made ≡ held_row (mail_at folder) row.uid =
          c.in_ok-row.ensures.row told (subst (λ (f : Folder). IsFileOf f c.loop-k.file) same (inv.looks.file told tt)) (subst (λ (f : Folder). HasTrueCache f chain.indexid m) same true_cache)
          ∙ ap (λ (f : Folder). held_row (mail_at f) row.uid) still in
          c.in-Ok.ensures first (held_rows (mail_at folder) (take k m.rows)) (inv.rows told true_cache)
          ∙ ap (λ (r : CacheRow). begun first (held_rows (mail_at folder) (take k m.rows) ++ r ∷ [])) held
          ∙ ap (λ (all : List CacheRow). begun first all) (rows_more (mail_at folder) m.rows k row less c.row.ensures);
      looks = row_added S.sees chain k row c.args.shelf.now c.loop-k.shelf c.cache_row.new.shelf c.loop-k.file c.cache_row.new.file c.row.ensures
          inv.looks c.cache_row.ensures.looks c.cache_row.ensures.file c.cache_row.ensures.economy c.cache_row.ensures.spares;
      faults = search rules;
    }

pub returns-in_err-row-clause-most : goal.returns-in_err-row-clause-most
returns-in_err-row-clause-most g c =
    let S = g.S.Shelf in
    let chain = c.args.chain.now in
    let k = c.loop-k.k in
    let did = c.cache_row.ensures in
    most_rows S.sees chain (k + 1) c.cache_row.new.file c.args.shelf.now c.cache_row.new.shelf
    (row_added S.sees chain k c.row.result.now c.args.shelf.now c.loop-k.shelf c.cache_row.new.shelf c.loop-k.file c.cache_row.new.file c.row.ensures
    c.loop-k.invariant.looks did.looks did.file did.economy did.spares)

pub returns-in_err-row-clause-spares : goal.returns-in_err-row-clause-spares
returns-in_err-row-clause-spares g c =
    let S = g.S.Shelf in
    let chain = c.args.chain.now in
    let k = c.loop-k.k in
    let did = c.cache_row.ensures in
    spared_rows S.sees chain (k + 1) c.cache_row.new.file c.args.shelf.now c.cache_row.new.shelf
    (row_added S.sees chain k c.row.result.now c.args.shelf.now c.loop-k.shelf c.cache_row.new.shelf c.loop-k.file c.cache_row.new.file c.row.ensures
    c.loop-k.invariant.looks did.looks did.file did.economy did.spares)

pub returns-in-Err-clause-most : goal.returns-in-Err-clause-most
returns-in-Err-clause-most g c =
    let S = g.S.Shelf in
    let chain = c.args.chain.now in
    let k = c.loop-k.k in
    let did = c.cache_row.ensures in
    most_rows S.sees chain (k + 1) c.cache_row.new.file c.args.shelf.now c.cache_row.new.shelf
    (row_added S.sees chain k c.row.result.now c.args.shelf.now c.loop-k.shelf c.cache_row.new.shelf c.loop-k.file c.cache_row.new.file c.row.ensures
    c.loop-k.invariant.looks did.looks did.file did.economy did.spares)

pub returns-in-Err-clause-spares : goal.returns-in-Err-clause-spares
returns-in-Err-clause-spares g c =
    let S = g.S.Shelf in
    let chain = c.args.chain.now in
    let k = c.loop-k.k in
    let did = c.cache_row.ensures in
    spared_rows S.sees chain (k + 1) c.cache_row.new.file c.args.shelf.now c.cache_row.new.shelf
    (row_added S.sees chain k c.row.result.now c.args.shelf.now c.loop-k.shelf c.cache_row.new.shelf c.loop-k.file c.cache_row.new.file c.row.ensures
    c.loop-k.invariant.looks did.looks did.file did.economy did.spares)

pub returns-clause-most : goal.returns-clause-most
returns-clause-most g c = most_rows g.S.Shelf.sees c.args.chain.now c.loop-k.k c.loop-k.file c.args.shelf.now c.loop-k.shelf c.loop-k.invariant.looks

pub returns-clause-spares : goal.returns-clause-spares
returns-clause-spares g c = spared_rows g.S.Shelf.sees c.args.chain.now c.loop-k.k c.loop-k.file c.args.shelf.now c.loop-k.shelf c.loop-k.invariant.looks
