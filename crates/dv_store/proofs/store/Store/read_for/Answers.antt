use Rattle.dv_store.proofs.store.Store.read_for.Goals.{in-Ok, in-Err}
use Rattle.dv_store.proofs.store.Store.read_for.Goals as goal

pub returns-clause-found : goal.returns-clause-found
returns-clause-found g c = rw (← c.self.view_is) (λ tells mail known.
    elim c.match-read_for.branch [
      | in-Ok w ↦ rw w.result-is (w.in-Ok.ensures.found tells mail known)
      | in-Err w ↦ rw w.result-is tt
    ])

pub returns-clause-replies : goal.returns-clause-replies
returns-clause-replies g c = rw (← c.self.view_is) (λ tells known.
    elim c.match-read_for.branch [
      | in-Ok w ↦ rw w.result-is tt
      | in-Err w ↦ rw w.result-is (w.in-Err.ensures.replies tells known)
    ])

pub returns-clause-looks : goal.returns-clause-looks
returns-clause-looks g c = rw (← c.self.view_is) c.read_for.ensures.looks
