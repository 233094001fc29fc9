use Rattle.std.proofs.Common.{◌≡◌, length}
use Rattle.std.specs.Prelude.{is_some}
use Rattle.dv_formats.specs.Parsing.{set_of}
use Rattle.dv_catching.proofs.clients.is_set.Given as goal

abbrev pub invariant-pieces : goal.invariant-pieces
invariant-pieces l = is_some (set_of l.word) ≡ is_some (set_of l.text)

abbrev pub decreases-pieces : goal.decreases-pieces
decreases-pieces l = length l.text
