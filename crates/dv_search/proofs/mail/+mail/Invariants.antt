use Rattle.std.proofs.Common.{◌≡◌, false, map, take}
use Rattle.std.specs.List.{list_any}
use Rattle.dv_model.specs.Searches.{needs_mail}
use Rattle.dv_search.proofs.mail.+mail.Given as goal

abbrev pub invariant-any_reads-loop-key : goal.invariant-any_reads-loop-key
invariant-any_reads-loop-key l = list_any (λ reads. reads) (map needs_mail (take l.key-index l.key-items)) ≡ false
