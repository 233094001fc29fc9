use Rattle.dv_apply.proofs.Refusing.{refused_none, refused_only}
use Rattle.dv_apply.proofs.law.refused_by_a_row.Goals as goal

pub returns-clause-none : goal.returns-clause-none
returns-clause-none c = refused_none

pub returns-clause-only : goal.returns-clause-only
returns-clause-only c = refused_only
