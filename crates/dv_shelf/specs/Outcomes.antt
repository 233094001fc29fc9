-- What comes of a writing call.
use Rattle.std.specs.Prelude.{Bool, true, false}
use Rattle.dv_shelf.specs.declared.record.Outcome.{Outcome}
use Rattle.dv_shelf.specs.declared.record.Outcome.TheVariants.{Done, Hidden, Shown}
use Rattle.dv_shelf.specs.declared.failures.Turn.{Turn}
use Rattle.dv_shelf.specs.declared.failures.Turn.TheVariants.{Passes, Fails, Stopped}

-- the call may answer Ok
abbrev pub passes : Turn → Bool
passes Passes = true
passes Fails = false
passes Stopped = false

-- the call isn't behind the stop
abbrev pub is_reached : Turn → Bool
is_reached Passes = true
is_reached Fails = true
is_reached Stopped = false

-- a call that failed, where reads see what a replace or remove made or don't
abbrev pub failed_outcome : Bool → Outcome
failed_outcome true = Shown
failed_outcome false = Hidden

-- what comes of a call that leaves a trace
abbrev pub outcome_then : Turn → Bool → Outcome
outcome_then Passes shows = Done
outcome_then Fails shows = failed_outcome shows
outcome_then Stopped shows = failed_outcome shows
