use Rattle.std.proofs.Common.{◌∙◌, IfOk, subst, sym}
use Rattle.dv_model.specs.declared.types.Command.{Command}
use Rattle.dv_responses.specs.Asked.{Asks}
use Rattle.dv_responses.specs.Damaged.{IsRead}
use Rattle.dv_lookups.specs.Commands.{AskedStands, uids_read}
use Rattle.dv_lookups.specs.Lookups.{LooksUp}
use Rattle.dv_lookups.proofs.Rows.{ok_gives}
use Rattle.dv_lookups.proofs.Stepping.{reads_for}
use Rattle.dv_lookups.proofs.cache_file.CacheFile.read_for.Goals as goal

pub returns-in-Fetch-clause-found : goal.returns-in-Fetch-clause-found
returns-in-Fetch-clause-found g c = λ told mail known.
    subst (λ (cmd : Command). IfOk c.fetch_for.result (IsRead g.R.Replies.with c.args.lines.now c.fetch_for.new.lines mail cmd c.args.view.now c.args.chain.now.live.mailbox)) (sym c.in-Fetch.is)
    (c.fetch_for.ensures.found told mail known)

pub returns-in-Fetch-clause-looks : goal.returns-in-Fetch-clause-looks
returns-in-Fetch-clause-looks g c =
    let S = g.S.Shelf in
    let chain = c.args.chain.now in
    let view = c.args.view.now in
    let asked = c.in_ok-asked.asked in
    let asks = ok_gives (Asks c.args.c.now) c.asked_by.result asked (sym c.in_memory.ensures ∙ c.in_ok-asked.was) c.asked_by.ensures in
    reads_for S.sees chain c.args.c.now view asked c.args.self.now c.fetch_for.new.self c.args.shelf.now c.fetch_for.new.shelf asks
    (subst (λ (cmd : Command). LooksUp S.sees chain (AskedStands asked) (uids_read cmd view) c.args.self.now c.fetch_for.new.self c.args.shelf.now c.fetch_for.new.shelf) (sym c.in-Fetch.is) c.fetch_for.ensures.looks)

pub returns-in-Search-clause-found : goal.returns-in-Search-clause-found
returns-in-Search-clause-found g c = λ told mail known.
    subst (λ (cmd : Command). IfOk c.search_for.result (IsRead g.R.Replies.with c.args.lines.now c.search_for.new.lines mail cmd c.args.view.now c.args.chain.now.live.mailbox)) (sym c.in-Search.is)
    (c.search_for.ensures.found told mail known)

pub returns-in-Search-clause-looks : goal.returns-in-Search-clause-looks
returns-in-Search-clause-looks g c =
    let S = g.S.Shelf in
    let chain = c.args.chain.now in
    let view = c.args.view.now in
    let asked = c.in_ok-asked.asked in
    let asks = ok_gives (Asks c.args.c.now) c.asked_by.result asked (sym c.in_memory.ensures ∙ c.in_ok-asked.was) c.asked_by.ensures in
    reads_for S.sees chain c.args.c.now view asked c.args.self.now c.search_for.new.self c.args.shelf.now c.search_for.new.shelf asks
    (subst (λ (cmd : Command). LooksUp S.sees chain (AskedStands asked) (uids_read cmd view) c.args.self.now c.search_for.new.self c.args.shelf.now c.search_for.new.shelf) (sym c.in-Search.is) c.search_for.ensures.looks)
