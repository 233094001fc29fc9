use Rattle.std.proofs.Common.{◌≡◌, ℕ, Some, Option, false, sym, ◌∙◌, ap, subst}
use Rattle.std.specs.Prelude.{IfOk, is_some}
use Rattle.dv_model.specs.Journals.{Mail}
use Rattle.dv_model.specs.Sessions.{has_uid}
use Rattle.dv_responses.proofs.Having.{has_place}
use Rattle.dv_lookups.specs.declared.source.Source.TheVariants as source
use Rattle.dv_lookups.specs.Founds.{IsSourceOf, mail_of}
use Rattle.dv_lookups.specs.Kept.{Economy, IsSpared, row_of}
use Rattle.dv_lookups.proofs.Rows.{mail_gone, placed_row, row_named}
use Rattle.dv_lookups.proofs.cache_file.CacheFile.source.Goals as goal

pub row_source-requires : goal.row_source-requires
row_source-requires g c =
    let m = c.args.chain.now.live.mailbox in
    let row = c.row.result.now in
    let there : row_of m c.args.uid ≡ Some row = placed_row m c.args.uid c.in-Some.k row (sym c.position.ensures ∙ c.in-Some.is) c.row.ensures in
    record { row = subst (λ (u : ℕ). row_of m u ≡ Some row) (sym (row_named m c.args.uid row there)) there }

pub returns-in-Some-clause-found : goal.returns-in-Some-clause-found
returns-in-Some-clause-found g c = λ told same true_cache.
    let S = g.S.Shelf in
    let folder = S.sees.files c.args.shelf.now in
    let m = c.args.chain.now.live.mailbox in
    let row = c.row.result.now in
    let named : row.uid ≡ c.args.uid = row_named m c.args.uid row (placed_row m c.args.uid c.in-Some.k row (sym c.position.ensures ∙ c.in-Some.is) c.row.ensures) in
    subst (λ (u : ℕ). IfOk c.row_source.result (IsSourceOf (mail_of folder m u))) named (c.row_source.ensures.found told same true_cache)

pub returns-in-Some-clause-economy : goal.returns-in-Some-clause-economy
returns-in-Some-clause-economy g c =
    let S = g.S.Shelf in
    let m = c.args.chain.now.live.mailbox in
    let row = c.row.result.now in
    let named : row.uid ≡ c.args.uid = row_named m c.args.uid row (placed_row m c.args.uid c.in-Some.k row (sym c.position.ensures ∙ c.in-Some.is) c.row.ensures) in
    subst (λ (u : ℕ). Economy S.sees m u c.args.may_look c.args.self.now c.row_source.new.self c.args.shelf.now c.row_source.new.shelf) named c.row_source.ensures.economy

pub returns-in-Some-clause-spares : goal.returns-in-Some-clause-spares
returns-in-Some-clause-spares g c = λ told same looks spared.
    let S = g.S.Shelf in
    let folder = S.sees.files c.args.shelf.now in
    let m = c.args.chain.now.live.mailbox in
    let row = c.row.result.now in
    let named : row.uid ≡ c.args.uid = row_named m c.args.uid row (placed_row m c.args.uid c.in-Some.k row (sym c.position.ensures ∙ c.in-Some.is) c.row.ensures) in
    c.row_source.ensures.spares told same looks (subst (IsSpared folder c.args.chain.now.indexid m) (sym named) spared)

pub returns-in-None-clause-found : goal.returns-in-None-clause-found
returns-in-None-clause-found g c = λ told same true_cache.
    let folder = g.S.Shelf.sees.files c.args.shelf.now in
    let m = c.args.chain.now.live.mailbox in
    let lacks : has_uid m c.args.uid ≡ false = sym (has_place m.rows c.args.uid c.position.result c.position.ensures) ∙ ap is_some c.in-None.is in
    subst (λ (o : Option Mail). IsSourceOf o source.Gone) (sym (mail_gone folder c.args.chain.now.indexid m c.args.uid lacks)) tt
