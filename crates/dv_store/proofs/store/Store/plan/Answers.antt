use Rattle.std.proofs.Common.{ℕ, List, subst}
use Rattle.dv_groups.specs.Groups.{HasSizes}
use Rattle.dv_plans.specs.Limits.{MeetsLimit}
use Rattle.dv_plans.specs.Overs.{limit_over}
use Rattle.dv_store.specs.States.{State}
use Rattle.dv_store.proofs.store.Store.plan.Goals as goal

pub returns-clause-limit : goal.returns-clause-limit
returns-clause-limit g c =
    subst (λ (s : State g.row.S.Denot g.row.C.Denot). (guid : ℕ → List ℕ) → HasSizes guid → MeetsLimit (limit_over c.args.c.now c.args.view.now s.chain guid) c.plan_group.result) c.self.view_is c.plan_group.ensures.limit
