use Rattle.dv_search.proofs.Largest.{largest_for_stars}
use Rattle.dv_search.proofs.law.largest_is_for_stars.Goals as goal

pub returns : goal.returns
returns c = largest_for_stars
