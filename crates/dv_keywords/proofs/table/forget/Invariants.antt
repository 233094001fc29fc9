use Rattle.std.proofs.Common.{◌≡◌, ◌≤◌, length, take, vec_capacity}
use Rattle.dv_keywords.specs.Finding.{FindsAlso}
use Rattle.dv_keywords.proofs.table.forget.Given as goal

abbrev pub invariant-loop-name : goal.invariant-loop-name
invariant-loop-name l =
    (l.names.items ≡ take (length l.names.items) l.initial.names.items) × (l.place ≤ length l.names.items) × FindsAlso l.name l.place l.index.map l.names.items
    × (vec_capacity l.names ≡ vec_capacity l.initial.names)

abbrev pub decreases-loop-name : goal.decreases-loop-name
decreases-loop-name l = length l.names.items
