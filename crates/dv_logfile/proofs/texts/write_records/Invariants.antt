use Rattle.std.proofs.Common.{◌≡◌, ◌++◌, take}
use Rattle.std.specs.List.{flat_map}
use Rattle.dv_model.specs.Spelling.{written}
use Rattle.dv_logfile.proofs.texts.write_records.Given as goal

abbrev pub invariant-loop-record : goal.invariant-loop-record
invariant-loop-record l = l.out ≡ l.fn.out ++ flat_map written (take l.record-index l.records)
