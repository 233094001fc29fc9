use Rattle.std.proofs.Common.{◌≡◌, ◌+◌, ◌++◌, drop, map}
use Rattle.dv_maildrop.specs.Counts.{chosen}
use Rattle.dv_maildrop.specs.Maildrops.{uid_span}
use Rattle.dv_maildrop.proofs.counts.set_of.Given as goal

abbrev pub invariant-loop-place : goal.invariant-loop-place
invariant-loop-place l =
    l.set ++ map (λ row. uid_span row.1.uid) (chosen (λ flag. flag) (l.place + 1) (drop l.place l.rows) (drop l.place l.flags))
    ≡ map (λ row. uid_span row.1.uid) (chosen (λ flag. flag) 1 l.rows l.flags)
