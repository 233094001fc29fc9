use Rattle.std.proofs.Common.{◌≡◌, ◌*◌, ◌≤◌, take}
use Rattle.std.specs.List.{sum_by}
use Rattle.dv_index.proofs.reading.extensions.row_bytes.Given as goal

abbrev pub invariant-loop-extension : goal.invariant-loop-extension
invariant-loop-extension l = (l.bytes ≡ sum_by (λ e. e.record_size) (take l.extension-index l.extensions)) × (l.bytes ≤ l.extension-index * 65535)
