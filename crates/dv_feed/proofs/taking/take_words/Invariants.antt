use Rattle.std.proofs.Common.{◌≡◌, ◌+◌, ◌-◌, ◌≤◌, ◌++◌, drop, vec_len, vec_capacity}
use Rattle.dv_front.specs.Ends.{known}
use Rattle.dv_feed.proofs.taking.take_words.Given as goal

abbrev pub invariant-loop-at : goal.invariant-loop-at
invariant-loop-at l =
    (l.p ≡ record l.initial.p { taken = l.at })
    × (l.words.items ++ drop l.at (known l.initial.p) ≡ l.initial.words.items ++ drop l.taken (known l.initial.p))
    × (vec_len l.words + (l.count - l.at) ≤ vec_capacity l.words)
