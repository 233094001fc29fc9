use Rattle.std.proofs.Common.{◌≡◌, map, take}
use Rattle.dv_qresync.specs.Replicas.{cached}
use Rattle.dv_qresync.proofs.replicas.replica_of.Given as goal

abbrev pub invariant-loop-place : goal.invariant-loop-place
invariant-loop-place l = l.rows ≡ map (cached l.live.mailbox) (take l.place l.live.mailbox.rows)
