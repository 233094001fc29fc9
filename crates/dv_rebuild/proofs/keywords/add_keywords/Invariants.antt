use Rattle.std.proofs.Common.{◌≡◌, ◌++◌, take}
use Rattle.std.specs.Prelude.{flat_map}
use Rattle.std.specs.List.{enumerate_from}
use Rattle.dv_openings.specs.Salvages.{keyword_records}
use Rattle.dv_rebuild.proofs.keywords.add_keywords.Given as goal

abbrev pub invariant-loop-k : goal.invariant-loop-k
invariant-loop-k l = l.records ≡ l.initial.records ++ flat_map (keyword_records l.live.mailbox l.kept) (take l.k (enumerate_from 0 l.live.mailbox.keywords))
