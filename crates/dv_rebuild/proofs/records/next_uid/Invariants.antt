use Rattle.std.proofs.Common.{◌≡◌, ◌+◌, max, take}
use Rattle.std.specs.Prelude.{fold}
use Rattle.dv_rebuild.proofs.records.next_uid.Given as goal

abbrev pub invariant-loop-uid : goal.invariant-loop-uid
invariant-loop-uid l = l.next ≡ fold (λ next uid. max next (uid + 1)) l.live.mailbox.next_uid (take l.uid-index l.kept)
