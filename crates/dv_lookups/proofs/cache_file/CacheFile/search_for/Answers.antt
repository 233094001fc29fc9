use Rattle.std.proofs.Common.{◌≡◌, ◌∙◌, List, [], ◌∷◌, ℕ, ap, subst, sym}
use Rattle.dv_model.specs.declared.types.Command.TheVariants as command
use Rattle.dv_model.specs.declared.types.Reply.TheVariants as reply
use Rattle.dv_model.specs.Sets.{numbered}
use Rattle.dv_search.specs.Sought.{IsSought}
use Rattle.dv_responses.proofs.Searched.{told as told_of}
use Rattle.dv_lookups.specs.Commands.{AskedStands}
use Rattle.dv_lookups.specs.Lookups.{LooksUp}
use Rattle.dv_lookups.specs.Reads.{uids_of}
use Rattle.dv_lookups.proofs.Rows.{ok_gives}
use Rattle.dv_lookups.proofs.Told.{damaged_are, numbers_same, search_reads}
use Rattle.dv_lookups.proofs.cache_file.CacheFile.search_for.Goals as goal

pub returns-clause-found : goal.returns-clause-found
returns-clause-found g c = λ told mail known.
    let with = g.R.Replies.with in
    let folder = g.S.Shelf.sees.files c.args.shelf.now in
    let m = c.args.chain.now.live.mailbox in
    let view = c.args.view.now in
    let by_uid = c.args.by_uid in
    let key = c.args.key.now in
    let lines = c.args.lines.now in
    let reads = c.requires.reads in
    let numbers = c.in_ok-picked.picked.numbers in
    let ready = ok_gives (IsSought key view) c.new.result c.in_ok-sought.sought (sym c.in_memory.ensures ∙ c.in_ok-sought.was) c.new.ensures in
    let took = ok_gives (λ u. c.take.new.self ≡ with lines (reply.Search numbers ∷ [])) c.take.result c.in_ok-in_memory.field-0 (sym c.in_memory-2.ensures ∙ c.in_ok-in_memory.was) c.take.ensures.ok in (
      took ∙ ap (λ (ns : List ℕ). with lines (reply.Search ns ∷ [])) (c.in_ok-picked.ensures.numbers told known.knows key ready c.requires.asks ∙ numbers_same folder m mail known.held key view by_uid)
          ∙ ap (with lines) (told_of mail by_uid key view m []),
      c.in_ok-picked.ensures.damaged told known.knows ∙ damaged_are folder m mail known.held (command.Search by_uid key) view (uids_of (numbered view)) (search_reads by_uid key view reads) reads,
    )

pub returns-in_err-in_memory-clause-looks : goal.returns-in_err-in_memory-clause-looks
returns-in_err-in_memory-clause-looks g c =
    subst (λ uids. LooksUp g.S.Shelf.sees c.args.chain.now (AskedStands c.args.asked.now) uids c.args.self.now c.search_rows.new.self c.args.shelf.now c.search_rows.new.shelf)
    (search_reads c.args.by_uid c.args.key.now c.args.view.now c.requires.reads) c.search_rows.ensures.looks

pub returns-clause-looks : goal.returns-clause-looks
returns-clause-looks g c =
    subst (λ uids. LooksUp g.S.Shelf.sees c.args.chain.now (AskedStands c.args.asked.now) uids c.args.self.now c.search_rows.new.self c.args.shelf.now c.search_rows.new.shelf)
    (search_reads c.args.by_uid c.args.key.now c.args.view.now c.requires.reads) c.search_rows.ensures.looks
