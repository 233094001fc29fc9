-- What a pass has taken.
use Rattle.std.specs.Prelude.{Bool, length, if◌then◌else◌}
use Rattle.dv_front.specs.Ends.{PassView, known, with_taken}
use Rattle.dv_feed.specs.declared.taking.Taken.{Taken}
use Rattle.dv_feed.specs.declared.taking.Taken.TheVariants.{Fresh, Rotated}

-- all words that are known are taken
abbrev pub taken_up : PassView → PassView
taken_up p = with_taken p (length (known p))

-- whether there may be more, by the seal
abbrev pub told_by : Bool → Taken
told_by sealed = if sealed then Rotated else Fresh
