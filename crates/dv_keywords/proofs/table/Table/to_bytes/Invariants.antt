use Rattle.std.proofs.Common.{◌≡◌, take}
use Rattle.std.specs.List.{flat_map}
use Rattle.dv_formats.specs.Snapshots.{keyword_text}
use Rattle.dv_keywords.proofs.table.Table.to_bytes.Given as goal

abbrev pub invariant-loop-name : goal.invariant-loop-name
invariant-loop-name l = l.text ≡ flat_map keyword_text (take l.name-index l.name-items)
