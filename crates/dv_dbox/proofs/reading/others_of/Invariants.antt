use Rattle.std.proofs.Common.{◌≡◌, ◌++◌, drop}
use Rattle.std.specs.Prelude.{filter}
use Rattle.dv_dbox.specs.BoxTexts.{is_other}
use Rattle.dv_dbox.specs.Reading.{texts}
use Rattle.dv_dbox.proofs.reading.others_of.Given as goal

abbrev pub invariant-loop-entry : goal.invariant-loop-entry
invariant-loop-entry l = l.others ++ filter is_other (texts (drop l.entry-index l.entries)) ≡ filter is_other (texts l.entries)
