use Rattle.std.proofs.Common.{◌≡◌, true, subst}
use Rattle.std.proofs.lemmas.List.{take_all}
use Rattle.std.specs.List.{list_all}
use Rattle.dv_ext.specs.Quiet.{is_quiet}
use Rattle.dv_ext.proofs.Quieting.{quiet_leaves}
use Rattle.dv_ext.proofs.extensions.Extensions.are_quiet.Goals as goal

pub returns-clause-parts : goal.returns-clause-parts
returns-clause-parts c = λ e.
    quiet_leaves c.args.self.now.extensions c.args.intros.now
    (subst (λ xs. list_all (is_quiet c.args.self.now.extensions) xs ≡ true) (take_all c.loop-intro.intro-index c.args.intros.now c.loop-intro-test.false) c.loop-intro.invariant)
