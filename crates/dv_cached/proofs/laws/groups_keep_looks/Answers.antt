use Rattle.dv_cached.proofs.Looking.{makes_looks, makes_parts, none_at_start}
use Rattle.dv_cached.proofs.laws.groups_keep_looks.Goals as goal

pub returns-clause-parts : goal.returns-clause-parts
returns-clause-parts c = λ command m after makes. makes_parts command m after makes

pub returns-clause-looks : goal.returns-clause-looks
returns-clause-looks c = λ command m after makes. makes_looks command m after makes

pub returns-clause-start : goal.returns-clause-start
returns-clause-start c = none_at_start
