use Rattle.std.proofs.Common.{◌≡◌, ◌≤◌, take}
use Rattle.std.specs.Prelude.{sum_by}
use Rattle.dv_cache.specs.Caches.{field_size}
use Rattle.dv_cache.proofs.fields.size_of.Given as goal

abbrev pub invariant-loop-field : goal.invariant-loop-field
invariant-loop-field l = (l.size ≡ sum_by field_size (take l.field-index l.fields)) × (l.size ≤ l.most)
