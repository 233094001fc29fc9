use Rattle.std.proofs.Common.{◌≡◌, replicate}
use Rattle.dv_gen.proofs.commands.message_of.Given as goal

abbrev pub invariant-loop : goal.invariant-loop
invariant-loop l = l.message ≡ replicate l.counter 120
