use Rattle.dv_keywords.proofs.Changes.{stay_below, stay_rising}
use Rattle.dv_keywords.proofs.law.places_stay_places.Goals as goal

pub returns-clause-rising : goal.returns-clause-rising
returns-clause-rising c = stay_rising

pub returns-clause-below : goal.returns-clause-below
returns-clause-below c = stay_below
