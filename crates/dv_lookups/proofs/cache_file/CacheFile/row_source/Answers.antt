use Rattle.std.proofs.Common.{◌≡◌, Some, Option, true, subst}
use Rattle.dv_shelf.specs.Folders.{Folder}
use Rattle.dv_files.specs.Reading.{mail_at}
use Rattle.dv_lookups.specs.Founds.{IsSourceOf, mail_of}
use Rattle.dv_lookups.specs.Kept.{IsLookedUp}
use Rattle.dv_lookups.proofs.Economies.{economy_of, none_upto, one_upto}
use Rattle.dv_lookups.proofs.Rows.{if_ok, known_is, must_look, not_spared, read_is}
use Rattle.dv_lookups.proofs.cache_file.CacheFile.row_source.Goals as goal

pub returns-in_err-known-clause-economy : goal.returns-in_err-known-clause-economy
returns-in_err-known-clause-economy g c =
    let S = g.S.Shelf in
    let did = c.known_of.ensures in
    economy_of S.sees c.args.chain.now.live.mailbox c.args.row.now c.args.may_look c.args.self.now c.known_of.new.self c.args.shelf.now c.known_of.new.shelf c.requires.row
    (none_upto 1 (S.sees.mail_reads c.args.shelf.now) (S.sees.mail_reads c.known_of.new.shelf) did.spares.none) did.again did.aside did.placed

pub returns-in-Some-clause-economy : goal.returns-in-Some-clause-economy
returns-in-Some-clause-economy g c =
    let S = g.S.Shelf in
    let did = c.known_of.ensures in
    economy_of S.sees c.args.chain.now.live.mailbox c.args.row.now c.args.may_look c.args.self.now c.known_of.new.self c.args.shelf.now c.known_of.new.shelf c.requires.row
    (none_upto 1 (S.sees.mail_reads c.args.shelf.now) (S.sees.mail_reads c.known_of.new.shelf) did.spares.none) did.again did.aside did.placed

pub returns-in-Some-clause-found : goal.returns-in-Some-clause-found
returns-in-Some-clause-found g c = λ told same true_cache.
    let folder = g.S.Shelf.sees.files c.args.shelf.now in
    let m = c.args.chain.now.live.mailbox in
    let row = c.args.row.now in
    let looks : c.args.may_look ≡ true = must_look c.args.may_look c.in_ok-known.field-0 c.in-Some.known c.in_ok-known.ensures.none c.in-Some.is in
    let looked = subst (λ (o : Option _). IsLookedUp folder c.args.chain.now.indexid m row o) c.in-Some.is (c.in_ok-known.ensures.found told same looks) in
    known_is folder c.args.chain.now.indexid m row c.in-Some.known c.requires.row true_cache looked

pub returns-in-None-clause-found : goal.returns-in-None-clause-found
returns-in-None-clause-found g c = λ told same true_cache.
    let S = g.S.Shelf in
    let folder = S.sees.files c.args.shelf.now in
    let m = c.args.chain.now.live.mailbox in
    let row = c.args.row.now in
    let still = (c.known_of.ensures.looks told).same in
    if_ok (IsSourceOf (Some (mail_at (S.sees.files c.known_of.new.shelf) row.uid))) (IsSourceOf (mail_of folder m row.uid)) c.read_source.result
    (λ source found. read_is folder c.args.chain.now.indexid m row source c.requires.row (subst (λ (f : Folder). IsSourceOf (Some (mail_at f row.uid)) source) still found)) (c.read_source.ensures.found told)

pub returns-in-None-clause-from : goal.returns-in-None-clause-from
returns-in-None-clause-from g c = c.read_source.ensures.from c.args.may_look

pub returns-in-None-clause-economy : goal.returns-in-None-clause-economy
returns-in-None-clause-economy g c =
    let S = g.S.Shelf in
    let did = c.known_of.ensures in
    economy_of S.sees c.args.chain.now.live.mailbox c.args.row.now c.args.may_look c.args.self.now c.known_of.new.self c.args.shelf.now c.read_source.new.shelf c.requires.row
    (one_upto (S.sees.mail_reads c.args.shelf.now) (S.sees.mail_reads c.known_of.new.shelf) (S.sees.mail_reads c.read_source.new.shelf) did.spares.none c.read_source.ensures.mail_reads) did.again did.aside did.placed

pub returns-in-None-clause-spares : goal.returns-in-None-clause-spares
returns-in-None-clause-spares g c = λ told same looks spared.
    let folder = g.S.Shelf.sees.files c.args.shelf.now in
    let m = c.args.chain.now.live.mailbox in
    let row = c.args.row.now in
    absurd (not_spared folder c.args.chain.now.indexid m row c.requires.row (subst (λ (o : Option _). IsLookedUp folder c.args.chain.now.indexid m row o) c.in-None.is (c.in_ok-known.ensures.found told same looks)) spared)
