use Rattle.dv_openings.proofs.Cached.{none_true, written_true}
use Rattle.dv_openings.proofs.cache_is_true.Goals as goal

pub returns-clause-absent : goal.returns-clause-absent
returns-clause-absent c = none_true

pub returns-clause-written : goal.returns-clause-written
returns-clause-written c = written_true
