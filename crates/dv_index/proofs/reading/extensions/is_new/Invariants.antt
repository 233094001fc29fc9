use Rattle.std.proofs.Common.{◌≢◌, All, take}
use Rattle.dv_index.proofs.reading.extensions.is_new.Given as goal

abbrev pub invariant-loop-extension : goal.invariant-loop-extension
invariant-loop-extension l = All (λ e. e.name ≢ l.name) (take l.extension-index l.extensions)
