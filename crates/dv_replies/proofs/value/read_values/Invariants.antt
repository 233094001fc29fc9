use Rattle.std.proofs.Common.{◌≡◌, ◌-◌, ◌∷◌, [], length}
use Rattle.dv_replies.specs.Reading.{each_behind, value_at}
use Rattle.dv_replies.proofs.value.read_values.Given as goal

abbrev pub invariant-loop : goal.invariant-loop
invariant-loop l = each_behind (32 ∷ []) value_at (length l.b - l.counter) l.values l.rest ≡ each_behind (32 ∷ []) value_at (length l.b) [] l.b
