use Rattle.std.proofs.Common.{◌≡◌, ◌+◌, ◌≤◌, length, drop}
use Rattle.std.specs.Prelude.{count_by}
use Rattle.dv_model.specs.Fields.{is_bare_feed, virtual_size, with_previous}
use Rattle.dv_fields.proofs.sizes.virtual_size.Given as goal

abbrev pub invariant-loop-b : goal.invariant-loop-b
invariant-loop-b l =
    (l.size + count_by is_bare_feed (with_previous l.previous (drop l.b-index l.message)) ≡ virtual_size l.message)
    × (l.size ≤ length l.message + l.b-index)
