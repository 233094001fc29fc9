use Rattle.std.proofs.Common.{◌≡◌, ◌++◌, length, take}
use Rattle.dv_validity.proofs.Logs.{records_of}
use Rattle.dv_member.proofs.batch.add_records.Given as goal

abbrev pub invariant-loop-entry : goal.invariant-loop-entry
invariant-loop-entry l = l.records.items ≡ l.fn.records.items ++ records_of (take (length l.yielded) l.fn.entries)
