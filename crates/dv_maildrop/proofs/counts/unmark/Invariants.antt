use Rattle.std.proofs.Common.{◌≡◌, ℕ, ◌+◌, ◌<◌, false, get_or, length, vec_len}
use Rattle.std.specs.Prelude.{nat_eq}
use Rattle.std.specs.List.{list_any}
use Rattle.dv_maildrop.proofs.counts.unmark.Given as goal

abbrev pub invariant-loop-number : goal.invariant-loop-number
invariant-loop-number l = (i : ℕ) → i < length l.flags → list_any (nat_eq (i + 1)) l.numbers.items ≡ false → get_or l.flags i false ≡ false

abbrev pub decreases-loop-number : goal.decreases-loop-number
decreases-loop-number l = vec_len l.numbers
