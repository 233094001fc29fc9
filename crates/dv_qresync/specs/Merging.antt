-- A replica's rows while answers are heard.
use Rattle.std.specs.Prelude.{ℕ, ◌<◌, List, ◌++◌, All, reverse}
use Rattle.dv_qresync.specs.declared.merging.Merge.{Merge}
use Rattle.dv_qresync.specs.declared.types.Cached.{Cached}
use Rattle.dv_qresync.specs.declared.types.Replica.{Replica}

-- the rows before a place, and those from it on, of which the first stands last
abbrev pub rows_in : Merge → List Cached
rows_in merge = merge.before.items ++ reverse merge.after.items

-- the replica that it has become
abbrev pub merged : Merge → Replica
merged merge = record { uid_validity = merge.uid_validity; highest = merge.highest; rows = rows_in merge }

-- the rows before the place have lower UIDs than this
abbrev pub IsAt : ℕ → Merge → Type 0
IsAt bound merge = All (λ row. row.uid < bound) merge.before.items

abbrev pub IsMerge : Merge → Type 0
IsMerge merge = IsAt merge.bound merge
