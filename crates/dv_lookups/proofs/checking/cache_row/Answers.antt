use Rattle.std.proofs.Common.{◌≡◌, Option, Some, ap, subst, sym, ◌∙◌}
use Rattle.dv_model.specs.Journals.{Mail}
use Rattle.dv_cache.specs.declared.row.CacheRow.{CacheRow}
use Rattle.dv_cache.specs.declared.row.Known.{Known}
use Rattle.dv_files.specs.Reading.{mail_at}
use Rattle.dv_lookups.specs.Checks.{held_of}
use Rattle.dv_lookups.specs.Founds.{IsSourceOf}
use Rattle.dv_lookups.proofs.Rows.{mail_there, ok_gives, row_there}
use Rattle.dv_lookups.proofs.checking.cache_row.Goals as goal

pub returns-clause-row : goal.returns-clause-row
returns-clause-row g c = λ told same true_cache.
    let folder = g.S.Shelf.sees.files c.args.shelf.now in
    let indexid = c.args.chain.now.indexid in
    let m = c.args.chain.now.live.mailbox in
    let row = c.args.row.now in
    let mail = mail_at folder row.uid in
    let is : IsSourceOf (Some mail) c.in_ok-source.source =
    subst (λ (o : Option Mail). IsSourceOf o c.in_ok-source.source) (mail_there folder indexid m row.uid (row_there folder indexid m row.uid row c.requires.row)) (c.in_ok-source.ensures.found told same true_cache) in
    let known : c.in_ok-known.known ≡ held_of mail =
    ok_gives (λ (k : Option Known). k ≡ held_of mail) c.held_from.result c.in_ok-known.known (sym c.in_memory.ensures ∙ c.in_ok-known.was) (c.held_from.ensures.is mail is) in
    ap (λ (k : Option Known). record { uid = row.uid; known = k }) known
