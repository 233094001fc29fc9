use Rattle.std.proofs.Common.{◌≡◌, ◌*◌, ◌≤◌, take}
use Rattle.std.specs.List.{sum_by}
use Rattle.dv_model.specs.Spelling.{padded}
use Rattle.dv_index.proofs.header.parts_size.Given as goal

abbrev pub invariant-loop-extension : goal.invariant-loop-extension
invariant-loop-extension l = (l.size ≡ sum_by (λ e. padded e.record_size) (take l.extension-index l.extensions)) × (l.size ≤ l.extension-index * 65538)
