use Rattle.std.proofs.Common.{◌≡◌, ◌-◌, [], length}
use Rattle.dv_replies.specs.Reading.{flags_at}
use Rattle.dv_replies.proofs.lists.read_flags.Given as goal

abbrev pub invariant-loop : goal.invariant-loop
invariant-loop l = flags_at (length l.b - l.counter) (l.flags, l.keywords) l.rest ≡ flags_at (length l.b) (0, []) l.b
