use Rattle.dv_store.proofs.store.Store.sizes.Goals.{in-Ok, in-Err}
use Rattle.dv_store.proofs.store.Store.sizes.Goals as goal

pub returns-clause-found : goal.returns-clause-found
returns-clause-found g c = rw (← c.self.view_is) (λ tells file is_true.
    elim c.match-sizes.branch [
      | in-Ok w ↦ rw w.result-is (w.in-Ok.ensures.found tells file is_true)
      | in-Err w ↦ rw w.result-is tt
    ])
