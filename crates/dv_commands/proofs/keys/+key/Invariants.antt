use Rattle.std.proofs.Common.{◌≡◌, ◌+◌, ◌*◌, ◌-◌, length}
use Rattle.dv_formats.specs.Parsing.{key_at, several}
use Rattle.dv_commands.proofs.Loops.{with_front}
use Rattle.dv_commands.proofs.keys.+key.Given as goal

abbrev pub decreases-read_key : goal.decreases-read_key
decreases-read_key l = 2 * l.levels

abbrev pub decreases-read_keys : goal.decreases-read_keys
decreases-read_keys l = 2 * l.levels + 1

abbrev pub invariant-read_keys-loop : goal.invariant-read_keys-loop
invariant-read_keys-loop l = with_front l.keys.items (several (key_at l.levels) (length l.b - l.counter) l.rest) ≡ several (key_at l.levels) (length l.b) l.b
