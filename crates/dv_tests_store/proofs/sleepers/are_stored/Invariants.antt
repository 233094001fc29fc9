use Rattle.dv_model.specs.Sessions.{IsCommand}
use Rattle.dv_groups.specs.Groups.{HasFewKeywords}
use Rattle.dv_tests_store.proofs.sleepers.are_stored.Given as goal

-- the command stays one
abbrev pub invariant-loop-count : goal.invariant-loop-count
invariant-loop-count l = IsCommand l.command × HasFewKeywords l.command
