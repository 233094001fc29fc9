use Rattle.std.proofs.Common.{◌≡◌, ◌-◌}
use Rattle.dv_formats.specs.Parsing.{item_at, item_limit, several}
use Rattle.dv_commands.proofs.Loops.{with_front}
use Rattle.dv_commands.proofs.items.read_items.Given as goal

abbrev pub invariant-loop : goal.invariant-loop
invariant-loop l = with_front l.items (several item_at (item_limit - l.counter) l.rest) ≡ several item_at item_limit l.b
