use Rattle.std.proofs.Common.{ap, subst}
use Rattle.dv_shared.specs.Holding.{Holds}
use Rattle.dv_shared.specs.Kept.{Kept, Locked, notes_in}
use Rattle.dv_shared.proofs.Looked.{durable_now}
use Rattle.dv_shared.proofs.Owing.{owes_some}
use Rattle.dv_shared.proofs.shared.Shared.knows.Goals as goal

pub returns-clause-durable : goal.returns-clause-durable
returns-clause-durable g c h folder left =
    let k = c.args.self.now.kept in
    let holds = subst (λ (x : Kept g.row.S.Denot g.row.C.Denot). Holds g.S.Shelf.sees g.C.Clock.sees.tells g.K.Keeping.start g.K.Keeping.moment g.K.Keeping.past g.K.Keeping.honest x)
    (ap (λ (l : Locked g.row.S.Denot g.row.C.Denot). l.kept) c.self.view_is) c.self.invariant.0 in
    durable_now g.S.Shelf.sees g.C.Clock.sees.tells g.K.Keeping.start g.K.Keeping.moment g.K.Keeping.past g.K.Keeping.honest k holds h folder left

pub returns-clause-owes : goal.returns-clause-owes
returns-clause-owes g c h =
    let k = c.args.self.now.kept in
    let holds = subst (λ (x : Kept g.row.S.Denot g.row.C.Denot). Holds g.S.Shelf.sees g.C.Clock.sees.tells g.K.Keeping.start g.K.Keeping.moment g.K.Keeping.past g.K.Keeping.honest x)
    (ap (λ (l : Locked g.row.S.Denot g.row.C.Denot). l.kept) c.self.view_is) c.self.invariant.0 in
    owes_some g.S.Shelf.sees g.C.Clock.sees.tells g.K.Keeping.start (notes_in k) k.store holds.stands k.tries (holds.folder h).rests
