use Rattle.std.proofs.Common.{◌≡◌, ◌+◌, ◌-◌, ◌∷◌, [], ◌++◌, ◌∙◌, List, ap, cond, length, map, sym}
use Rattle.dv_model.specs.declared.types.Reply.TheVariants as reply
use Rattle.dv_view.specs.declared.telling.Told.{Told}
use Rattle.dv_view.specs.Following.{rows_after}
use Rattle.dv_view.specs.Tells.{changes_of, fetch_of, removals_of, shows_all}
use Rattle.dv_view.specs.Told.{row_of}
use Rattle.dv_view.proofs.Passing.{fetches, finished, grown, not_grown}
use Rattle.dv_view.proofs.telling.add_said_by.Goals as goal
use Rattle.dv_view.proofs.telling.add_said_by.Goals.{then-told+in_ok-take, else-told}

pub returns-clause-ok : goal.returns-clause-ok
returns-clause-ok g c =
    let with = g.R.Replies.with in
    let none = g.met.R.Replies.none in
    let more = g.met.R.Replies.more in
    let names = c.args.names.now.names in
    let rows = c.args.rows.now in
    let fresh = c.args.fresh.now in
    let step = c.args.step in
    let new = rows_after step rows fresh in
    let told = c.in_ok-told.told in
    let first = c.args.said.now in
    let removed = removals_of new rows in
    let is = finished step rows fresh told c.in_ok-told.ensures in
    let grows = cond (shows_all rows new) [] (reply.Exists (length new) ∷ []) in
    let changes = changes_of names rows 1 new in
    let before : c.if-told.said ≡ with (with first removed) grows =
    elim c.if-told.branch [
      | then-told+in_ok-take w ↦
          w.said-is ∙ w.in_ok-take.ensures.ok ∙ ap (λ x. with x (reply.Exists (told.number + (length rows - told.from) - 1) ∷ [])) c.in_ok-lost.ensures.ok
          ∙ ap (with (with first removed)) (grown rows new told is [] w.if-told.true)
      | else-told w ↦
          w.said-is ∙ c.in_ok-lost.ensures.ok ∙ sym (none (with first removed)) ∙ ap (with (with first removed)) (not_grown rows new told is [] w.if-told.false)
    ] in
    let last : c.add_told.new.said ≡ with c.if-told.said (map (λ t. fetch_of names (row_of t)) c.deref.result.now) = c.in_ok-add_told.ensures.ok in
    last ∙ ap (λ (ts : List Told). with c.if-told.said (map (λ t. fetch_of names (row_of t)) ts)) c.deref.ensures.value
    ∙ ap (λ x. with x (map (λ t. fetch_of names (row_of t)) told.told.items)) before
    ∙ ap (with (with (with first removed) grows)) (fetches (fetch_of names) told.told.items ∙ ap (map (fetch_of names)) is.changes)
    ∙ ap (λ x. with x changes) (more first removed grows) ∙ more first (removed ++ grows) changes
