use Rattle.std.proofs.Common.{ℕ, ap, subst, sym}
use Rattle.std.specs.Prelude.{IfOk}
use Rattle.dv_model.specs.Journals.{Log}
use Rattle.dv_model.specs.Views.{View}
use Rattle.dv_responses.specs.Damaged.{IsRead}
use Rattle.dv_notes.specs.Logs.{log_of}
use Rattle.dv_serving.proofs.Looking.{messages_known}
use Rattle.dv_shared.specs.Holding.{Balances}
use Rattle.dv_shared.specs.Journals.{kept_of}
use Rattle.dv_shared.specs.Kept.{Kept, Locked, notes_in}
use Rattle.dv_shared.proofs.Looked.{looked_balances, looked_holds}
use Rattle.dv_shared.proofs.Settled.{settled_looked}
use Rattle.dv_shared.proofs.shared.Shared.read_for.Goals as goal

pub invariant_of-self : goal.invariant_of-self
invariant_of-self g c =
    let k = kept_of c.self.inside.journal in
    let store = c.read_for-result.new.self in
    let e = c.read_for-result.ensures in
    let sees = g.S.Shelf.sees in
    let start = g.K.Keeping.start in (
      looked_holds sees g.C.Clock.sees.tells start g.K.Keeping.moment g.K.Keeping.past g.K.Keeping.honest k c.self.invariant.0 store e.stays e.reads,
      subst (λ (n : ℕ). Balances sees g.K.Keeping.count c.self.inside.writes.total (record { kept = record k { store = store }; refused = n })) (sym c.count_failure.ensures.total)
          (looked_balances sees g.C.Clock.sees.tells start g.K.Keeping.moment g.K.Keeping.past g.K.Keeping.honest k c.self.invariant.0 store e.stays e.reads g.K.Keeping.count c.self.inside.writes.total c.self.inside.refusals.total
          c.read_for-result.result e.cause c.self.invariant.1),
      settled_looked sees g.C.Clock.sees.tells start g.K.Keeping.moment g.K.Keeping.past g.K.Keeping.honest g.K.Keeping.count c.self.inside.refusals.total k c.self.invariant.0 c.self.invariant.1.few c.self.invariant.2 store e.cause.later e.reads,
    )

pub returns-clause-found : goal.returns-clause-found
returns-clause-found g c h =
    let k = kept_of c.self.inside.journal in
    let log : Log = log_of g.K.Keeping.start (notes_in k) in
    let folder = c.self.invariant.0.folder h in
    let knows = (c.knows.ensures folder.told log folder.rests.debt folder.rests.rests).knows in
    let messages = messages_known g.S.Shelf.sees log folder.rests.debt k.store (g.met.S.Shelf.leaves_files k.store.shelf folder.told) folder.rests.rests in
    subst (λ (x : Kept g.row.S.Denot g.row.C.Denot). IfOk c.read_for-result.result (IsRead g.R.Replies.with c.args.lines.now c.read_for-result.new.lines (log_of g.K.Keeping.start (notes_in x)).mail c.args.c.now c.args.s.now.follower.state.view x.store.chain.live.mailbox))
    (ap (λ (l : Locked g.row.S.Denot g.row.C.Denot). l.kept) c.self.view_is)
    (subst (λ (v : View). IfOk c.read_for-result.result (IsRead g.R.Replies.with c.args.lines.now c.read_for-result.new.lines log.mail c.args.c.now v k.store.chain.live.mailbox)) c.view.ensures
    (c.read_for-result.ensures.found folder.told log.mail (record { knows = knows; held = messages })))

pub returns-clause-lines : goal.returns-clause-lines
returns-clause-lines g c h =
    let k = kept_of c.self.inside.journal in
    let log : Log = log_of g.K.Keeping.start (notes_in k) in
    let folder = c.self.invariant.0.folder h in
    let knows = (c.knows.ensures folder.told log folder.rests.debt folder.rests.rests).knows in
    c.read_for-result.ensures.replies folder.told knows
