use Rattle.dv_cache.proofs.Again.{found, not_found}
use Rattle.dv_cache.proofs.law.written_is_found.Goals as goal

pub returns-clause-kept : goal.returns-clause-kept
returns-clause-kept c = found

pub returns-clause-none : goal.returns-clause-none
returns-clause-none c = not_found
