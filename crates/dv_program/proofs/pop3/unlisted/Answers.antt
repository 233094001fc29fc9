use Rattle.std.proofs.Common.{refl}
use Rattle.dv_program.proofs.pop3.unlisted.Goals as goal

pub returns-then-has_risen-clause-readings : goal.returns-then-has_risen-clause-readings
returns-then-has_risen-clause-readings c = λ old new other. absurd (other c.args.now refl)
