use Rattle.std.proofs.Common.{◌≤◌, length, subst}
use Rattle.std.specs.Prelude.{All, IfSome, slice_get}
use Rattle.dv_model.specs.declared.types.Row.{Row}
use Rattle.dv_tests_mailbox.proofs.rows.set.Goals as goal

pub set_part-requires : goal.set_part-requires
set_part-requires c = subst (All (λ (row : Row). IfSome (slice_get row.parts c.args.place) (λ part. length c.args.bytes.now ≤ length part))) c.as_slice.ensures (c.fit.ensures c.if-fit.true)
