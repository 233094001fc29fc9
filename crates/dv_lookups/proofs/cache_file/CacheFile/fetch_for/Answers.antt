use Rattle.std.proofs.Common.{◌≡◌, ◌∙◌, List, OnErr, ap, subst, sym}
use Rattle.std.specs.Prelude.{All}
use Rattle.std.proofs.lemmas.Result.{IfOk-weaker}
use Rattle.dv_model.specs.declared.types.Command.TheVariants as command
use Rattle.dv_model.specs.declared.types.Item.{Item}
use Rattle.dv_model.specs.declared.types.Shown.{Shown}
use Rattle.dv_model.specs.Sessions.{data_of}
use Rattle.dv_model.specs.Sets.{named}
use Rattle.dv_view.specs.Taken.{HasTaken}
use Rattle.dv_responses.specs.Damaged.{IsRead}
use Rattle.dv_responses.specs.Rows.{IsNumber, rows_at}
use Rattle.dv_lookups.specs.Commands.{AskedStands}
use Rattle.dv_lookups.specs.Lookups.{LooksUp}
use Rattle.dv_lookups.specs.Reads.{IsFetched, damaged_of, lines_of, uids_of}
use Rattle.dv_lookups.proofs.Rows.{ok_gives}
use Rattle.dv_lookups.proofs.Told.{damaged_are, fetch_reads, lines_same}
use Rattle.dv_lookups.proofs.cache_file.CacheFile.fetch_for.Goals as goal

pub fetch_rows-requires-clause-numbers : goal.fetch_rows-requires-clause-numbers
fetch_rows-requires-clause-numbers g c =
    let view = c.args.view.now in
    let inside = ok_gives (All (IsNumber view.rows)) c.named.result c.in_ok-numbers.numbers (sym c.in_memory.ensures ∙ c.in_ok-numbers.was) c.named.ensures.inside in
    subst (All (IsNumber c.as_slice-rows.result.now)) (sym c.as_slice-2.ensures) (subst (λ (rs : List Shown). All (IsNumber rs) c.in_ok-numbers.numbers) (sym (c.as_slice-rows.ensures ∙ c.rows.ensures.is)) inside)

pub returns-clause-found : goal.returns-clause-found
returns-clause-found g c = λ told mail known.
    let with = g.R.Replies.with in
    let folder = g.S.Shelf.sees.files c.args.shelf.now in
    let m = c.args.chain.now.live.mailbox in
    let view = c.args.view.now in
    let by_uid = c.args.by_uid in
    let set = c.args.set.now in
    let items = c.args.items.now in
    let lines = c.make_room.new.lines in
    let reads = c.requires.reads in
    let raw = rows_at c.as_slice-rows.result.now c.as_slice-2.result.now in
    let chosen = named by_uid set view in
    let is = ok_gives (λ numbers. rows_at view.rows numbers ≡ chosen) c.named.result c.in_ok-numbers.numbers (sym c.in_memory.ensures ∙ c.in_ok-numbers.was) c.named.ensures.is in
    let all : raw ≡ chosen = ap (λ (rs : List Shown). rows_at rs c.as_slice-2.result.now) (c.as_slice-rows.ensures ∙ c.rows.ensures.is) ∙ ap (rows_at view.rows) c.as_slice-2.ensures ∙ is in
    IfOk-weaker c.fetch_rows.result (IsFetched with lines c.fetch_rows.new.lines folder m c.as_slice.result.now raw) (IsRead with c.args.lines.now c.fetch_rows.new.lines mail (command.Fetch by_uid set items) view m)
    (λ damaged did. (
      did.0 ∙ ap (λ (is : List Item). with lines (lines_of folder m is raw)) c.as_slice.ensures ∙ ap (λ rs. with lines (lines_of folder m items rs)) all ∙ ap (with lines) (lines_same folder m mail known.held items reads chosen)
          ∙ ap (λ x. with x (data_of mail (command.Fetch by_uid set items) view m)) c.make_room.ensures,
      did.1 ∙ ap (λ rs. damaged_of folder m (uids_of rs)) all ∙ damaged_are folder m mail known.held (command.Fetch by_uid set items) view (uids_of chosen) (fetch_reads by_uid set items view reads) reads,
    ))
    (c.fetch_rows.ensures.found told known.knows)

pub returns-clause-looks : goal.returns-clause-looks
returns-clause-looks g c =
    let view = c.args.view.now in
    let by_uid = c.args.by_uid in
    let set = c.args.set.now in
    let items = c.args.items.now in
    let chosen = named by_uid set view in
    let is = ok_gives (λ numbers. rows_at view.rows numbers ≡ chosen) c.named.result c.in_ok-numbers.numbers (sym c.in_memory.ensures ∙ c.in_ok-numbers.was) c.named.ensures.is in
    let all : rows_at c.as_slice-rows.result.now c.as_slice-2.result.now ≡ chosen = ap (λ (rs : List Shown). rows_at rs c.as_slice-2.result.now) (c.as_slice-rows.ensures ∙ c.rows.ensures.is) ∙ ap (rows_at view.rows) c.as_slice-2.ensures ∙ is in
    subst (λ uids. LooksUp g.S.Shelf.sees c.args.chain.now (AskedStands c.args.asked.now) uids c.args.self.now c.fetch_rows.new.self c.args.shelf.now c.fetch_rows.new.shelf)
    (ap uids_of all ∙ fetch_reads by_uid set items view c.requires.reads) c.fetch_rows.ensures.looks

pub returns-clause-replies : goal.returns-clause-replies
returns-clause-replies g c = λ told known.
    let with = g.R.Replies.with in
    subst (λ x. OnErr c.fetch_rows.result (HasTaken with x c.fetch_rows.new.lines)) c.make_room.ensures (c.fetch_rows.ensures.replies told known)
