use Rattle.std.proofs.Common.{◌≡◌, ◌++◌, take}
use Rattle.dv_cache.specs.Caches.{fields_text}
use Rattle.dv_cache.proofs.fields.write_fields.Given as goal

abbrev pub invariant-loop-field : goal.invariant-loop-field
invariant-loop-field l = l.out ≡ l.initial.out ++ fields_text (take l.field-index l.fields)
