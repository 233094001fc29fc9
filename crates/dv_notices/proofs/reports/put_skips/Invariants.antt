use Rattle.std.proofs.Common.{◌≡◌, ◌++◌, take}
use Rattle.std.specs.Prelude.{flat_map}
use Rattle.dv_notices.specs.Reports.{skip_text}
use Rattle.dv_notices.proofs.reports.put_skips.Given as goal

abbrev pub invariant-loop-skip : goal.invariant-loop-skip
invariant-loop-skip l = l.text ≡ l.initial.text ++ flat_map skip_text (take l.skip-index l.skips)
