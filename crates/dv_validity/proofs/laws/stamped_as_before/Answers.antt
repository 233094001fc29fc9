use Rattle.dv_validity.proofs.Comparisons.{stamped_alike, stamped_with_more, stamped_without}
use Rattle.dv_validity.proofs.laws.stamped_as_before.Goals as goal

pub returns-clause-alike : goal.returns-clause-alike
returns-clause-alike c = stamped_alike

pub returns-clause-without : goal.returns-clause-without
returns-clause-without c = stamped_without

pub returns-clause-more : goal.returns-clause-more
returns-clause-more c = stamped_with_more
