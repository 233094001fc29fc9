use Rattle.std.proofs.Common.{take}
use Rattle.std.specs.Prelude.{All}
use Rattle.dv_model.specs.declared.types.Extension.{Extension}
use Rattle.dv_model.specs.Journals.{IsU32}
use Rattle.dv_beginning.proofs.opening.are_numbers.Given as goal

abbrev pub invariant-loop-extension : goal.invariant-loop-extension
invariant-loop-extension l = All (λ (e : Extension). IsU32 e.reset_id) (take l.extension-index l.extensions)
