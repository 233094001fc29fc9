use Rattle.std.proofs.Common.{◌≡◌, take}
use Rattle.std.specs.Prelude.{flat_map}
use Rattle.dv_world.specs.declared.kept.Logged.{Logged}
use Rattle.dv_world.proofs.between.records_of.Given as goal

abbrev pub invariant-loop-one : goal.invariant-loop-one
invariant-loop-one l = l.records.items ≡ flat_map (λ (one : Logged). one.entry.group.records) (take l.one-index l.logged)
