use Rattle.std.proofs.Common.{ap}
use Rattle.dv_sets.proofs.Words.{flags_are_one}
use Rattle.dv_sets.proofs.law.one_flags.Goals as goal

pub returns : goal.returns
returns c = λ flags bits keywords names b p q. let same = flags_are_one flags bits keywords names b p q in (ap (λ x. x.0) same, ap (λ x. x.1) same)
