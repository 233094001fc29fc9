use Rattle.std.proofs.Common.{◌≡◌, ◌∷◌, take}
use Rattle.dv_model.specs.Sessions.{keyword_adds}
use Rattle.dv_groups.specs.Changes.{append_of}
use Rattle.dv_groups.proofs.records.append_records.Given as goal

abbrev pub invariant-loop-name : goal.invariant-loop-name
invariant-loop-name l = l.records ≡ append_of l.uid l.flags ∷ keyword_adds l.uid (take l.name-index l.names)
