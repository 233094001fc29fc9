use Rattle.std.proofs.Common.{◌≡◌, ℕ, ◌-◌, ◌<◌, ◌≤◌}
use Rattle.std.specs.Prelude.{All}
use Rattle.dv_ranges.specs.Ranges.{AreChangesApart, flags_after}
use Rattle.dv_ranges.proofs.overlays.overlay.Given as goal

abbrev pub invariant-loop-from : goal.invariant-loop-from
invariant-loop-from l = record {
  one_apart : AreChangesApart l.one;
  one_ahead : All (λ change. l.from ≤ change.last) l.one;
  one_same : (uid flags : ℕ) → l.from ≤ uid → flags_after uid flags l.one ≡ flags_after uid flags l.fn.first;
  two_apart : AreChangesApart l.two;
  two_ahead : All (λ change. l.from ≤ change.last) l.two;
  two_same : (uid flags : ℕ) → l.from ≤ uid → flags_after uid flags l.two ≡ flags_after uid flags l.fn.second;
  apart : AreChangesApart l.made.items;
  before : All (λ change. change.last < l.from) l.made.items;
  is : (uid flags : ℕ) → uid < l.from → flags_after uid flags l.made.items ≡ flags_after uid (flags_after uid flags l.fn.first) l.fn.second;
}

abbrev pub decreases-loop-from : goal.decreases-loop-from
decreases-loop-from l = 4294967296 - l.from
