use Rattle.dv_store.proofs.store.fresh.Goals as goal

pub invariant_of-result : goal.invariant_of-result
invariant_of-result g c = record { bounds = c.requires; owed = tt }
