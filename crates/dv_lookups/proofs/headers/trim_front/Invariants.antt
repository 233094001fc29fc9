use Rattle.std.proofs.Common.{◌≡◌, length}
use Rattle.dv_model.specs.Fields.{without_front_blanks}
use Rattle.dv_lookups.proofs.headers.trim_front.Given as goal

abbrev pub invariant-loop-text : goal.invariant-loop-text
invariant-loop-text l = without_front_blanks l.fn.text ≡ without_front_blanks l.text

abbrev pub decreases-loop-text : goal.decreases-loop-text
decreases-loop-text l = length l.text
