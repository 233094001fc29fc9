use Rattle.std.proofs.Common.{◌⊎◌, ℕ, ap, subst}
use Rattle.dv_shelf.specs.Crashes.{LeavesOnly}
use Rattle.dv_shelf.specs.Folders.{Folder}
use Rattle.dv_generations.specs.Feeds.{journal}
use Rattle.dv_model.specs.Views.{View}
use Rattle.dv_tries.specs.Tries.{GivesLast}
use Rattle.dv_shared.specs.Committing.{given}
use Rattle.dv_shared.specs.Journals.{kept_of}
use Rattle.dv_shared.specs.Kept.{Kept, Locked, notes_in}
use Rattle.dv_shared.specs.Owing.{MovesDebt}
use Rattle.dv_shared.proofs.shared.Shared.commit.Goals as goal

pub returns-clause-since : goal.returns-clause-since
returns-clause-since g c =
    let tells = g.C.Clock.sees.tells in
    let start = g.K.Keeping.start in
    let new = c.commit-result.new.self in
    subst (λ (k : Kept g.row.S.Denot g.row.C.Denot). g.K.Keeping.honest → LeavesOnly g.S.Shelf.sees k.store.shelf new.store.shelf (λ (d : Folder). GivesLast tells start (notes_in k) k.tries d ⊎ GivesLast tells start (journal new.feed) new.tries d))
    (ap (λ (l : Locked g.row.S.Denot g.row.C.Denot). l.kept) c.self.view_is) c.commit-result.ensures.since

pub returns-clause-owes : goal.returns-clause-owes
returns-clause-owes g c =
    let sees = g.S.Shelf.sees in
    let times = g.C.Clock.sees in
    let keeping = g.K.Keeping in
    let s = c.args.s.now in
    let old : Kept g.row.S.Denot g.row.C.Denot = kept_of c.self.inside.journal in
    let new : Kept g.row.S.Denot g.row.C.Denot = kept_of c.commit-result.new.self in
    let came = c.commit-result.result in
    subst (λ (k : Kept g.row.S.Denot g.row.C.Denot). keeping.honest → MovesDebt sees times.tells keeping.start (given s.number c.args.c.now s.follower.state.view k (times.upcoming k.store.clock)) k new came)
    (ap (λ (l : Locked g.row.S.Denot g.row.C.Denot). l.kept) c.self.view_is)
    (subst (λ (n : ℕ). keeping.honest → MovesDebt sees times.tells keeping.start (given n c.args.c.now s.follower.state.view old (times.upcoming old.store.clock)) old new came) c.number.ensures.is
    (subst (λ (v : View). keeping.honest → MovesDebt sees times.tells keeping.start (given c.number.result c.args.c.now v old (times.upcoming old.store.clock)) old new came) c.view.ensures c.commit-result.ensures.owes))
