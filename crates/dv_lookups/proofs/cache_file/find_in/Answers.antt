use Rattle.dv_lookups.proofs.cache_file.find_in.Goals as goal

pub returns-in-Ok-None-clause-found : goal.returns-in-Ok-None-clause-found
returns-in-Ok-None-clause-found c = rw c.in-Ok-None.field-0-is at c.in-Ok-None.ensures.none
