use Rattle.std.proofs.Common.{◌≡◌, ◌++◌, take}
use Rattle.std.specs.List.{All, flat_map}
use Rattle.dv_formats.specs.Snapshots.{HasFieldsOf, extension_text}
use Rattle.dv_index.proofs.tables.write_extensions.Given as goal

abbrev pub invariant-loop-extension : goal.invariant-loop-extension
invariant-loop-extension l = record {
  text : l.out ≡ l.fn.out ++ flat_map extension_text (take l.extension-index l.extensions);
  fits : All HasFieldsOf (take l.extension-index l.extensions);
}
