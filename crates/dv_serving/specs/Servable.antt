-- Which commands may be served.
use Rattle.dv_model.specs.declared.types.Command.{Command}
use Rattle.dv_model.specs.Sessions.{IsCommand}
use Rattle.dv_groups.specs.Groups.{HasFewKeywords}
use Rattle.dv_responses.specs.Depth.{IsShallow}

-- a command that may be served: of its type, with few keywords, and a key that isn't nested deep
pub record IsServable (c : Command) : Type 0 where
  pub command : IsCommand c
  pub few : HasFewKeywords c
  pub shallow : IsShallow c
