use Rattle.std.proofs.Common.{refl}
use Rattle.dv_pop3.proofs.Quiet.{quiet_self, quiet_unlisted}
use Rattle.dv_pop3.proofs.serving.serve.Goals as goal

pub returns-in_default-clause-served : goal.returns-in_default-clause-served
returns-in_default-clause-served g c = λ h. (quiet_unlisted g.K.Keeping.count c.args.session c.args.session (quiet_self c.args.session c.requires.fresh), λ told. refl)

pub returns-in-Ok-login-clause-served : goal.returns-in-Ok-login-clause-served
returns-in-Ok-login-clause-served g c = λ h. record { first = c.in-Ok-login.pop; listed = c.in-Ok-login.ensures.listed h; spoken = c.converse-session.ensures.spoken h }

pub returns-clause-served : goal.returns-clause-served
returns-clause-served g c = λ h. (c.in-Err.ensures.left h, λ told. refl)
