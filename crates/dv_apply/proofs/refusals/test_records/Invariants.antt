use Rattle.std.proofs.Common.{◌≡◌, take}
use Rattle.std.specs.Prelude.{IsSomeAnd}
use Rattle.dv_model.specs.declared.types.Mailbox.{Mailbox}
use Rattle.dv_model.specs.Effects.{applied}
use Rattle.dv_apply.proofs.refusals.test_records.Given as goal

abbrev pub invariant-loop-record : goal.invariant-loop-record
invariant-loop-record l = (m : Mailbox) → m.next_uid ≡ l.fn.next_uid → IsSomeAnd (applied m (take l.record-index l.records)) (λ n. n.next_uid ≡ l.next)
