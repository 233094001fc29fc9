use Rattle.dv_tries.proofs.Growing.{last_gives, more_gives}
use Rattle.dv_tries.proofs.laws.notes_and_tries_grow.Goals as goal

pub returns-clause-more : goal.returns-clause-more
returns-clause-more g c = more_gives g.C.Clock.sees.tells

pub returns-clause-last : goal.returns-clause-last
returns-clause-last g c = last_gives g.C.Clock.sees.tells
