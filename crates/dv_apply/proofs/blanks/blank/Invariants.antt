use Rattle.std.proofs.Common.{◌≡◌, take}
use Rattle.dv_apply.specs.States.{blank_parts}
use Rattle.dv_apply.proofs.blanks.blank.Given as goal

abbrev pub invariant-loop-extension : goal.invariant-loop-extension
invariant-loop-extension l = l.parts ≡ blank_parts (take l.extension-index l.extensions)
