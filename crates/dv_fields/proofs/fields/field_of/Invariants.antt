use Rattle.std.proofs.Common.{◌≡◌, length}
use Rattle.dv_model.specs.Fields.{field_of}
use Rattle.dv_fields.proofs.fields.field_of.Given as goal

abbrev pub invariant-loop-field : goal.invariant-loop-field
invariant-loop-field l = field_of l.fn.message l.name ≡ field_of l.rest l.name

abbrev pub decreases-loop-field : goal.decreases-loop-field
decreases-loop-field l = length l.rest
