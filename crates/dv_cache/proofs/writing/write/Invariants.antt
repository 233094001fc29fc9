use Rattle.std.proofs.Common.{◌≡◌, take}
use Rattle.dv_cache.specs.Begun.{begun}
use Rattle.dv_cache.specs.Caches.{first_place}
use Rattle.dv_cache.proofs.writing.write.Given as goal

abbrev pub invariant-loop-row : goal.invariant-loop-row
invariant-loop-row l = l.text ≡ begun (first_place l.row-items) (take l.row-index l.row-items)
