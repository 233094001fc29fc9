use Rattle.dv_cached.proofs.Checks.{cached_writable, check_uids, checked_true}
use Rattle.dv_cached.proofs.laws.checked_cache_is_true.Goals as goal

pub returns-clause-uids : goal.returns-clause-uids
returns-clause-uids c = check_uids

pub returns-clause-cache : goal.returns-clause-cache
returns-clause-cache c = checked_true

pub returns-clause-writable : goal.returns-clause-writable
returns-clause-writable c = cached_writable
