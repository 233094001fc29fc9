use Rattle.dv_cache.proofs.Again.{only_written}
use Rattle.dv_cache.proofs.law.found_is_written.Goals as goal

pub returns : goal.returns
returns c = only_written
