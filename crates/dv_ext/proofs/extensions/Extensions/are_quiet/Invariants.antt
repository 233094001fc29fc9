use Rattle.std.proofs.Common.{◌≡◌, true, take}
use Rattle.std.specs.List.{list_all}
use Rattle.dv_ext.specs.Quiet.{is_quiet}
use Rattle.dv_ext.proofs.extensions.Extensions.are_quiet.Given as goal

abbrev pub invariant-loop-intro : goal.invariant-loop-intro
invariant-loop-intro l = list_all (is_quiet l.self.extensions) (take l.intro-index l.intros) ≡ true
