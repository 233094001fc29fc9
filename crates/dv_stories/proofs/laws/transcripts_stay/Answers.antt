use Rattle.dv_stories.proofs.Growing.{extends_of, speaks_stays, spoken_stays, turn_on}
use Rattle.dv_stories.proofs.laws.transcripts_stay.Goals as goal

pub returns-clause-turns : goal.returns-clause-turns
returns-clause-turns c = λ log later base author t sound on is. turn_on log later (extends_of log later sound on) base author t is

pub returns-clause-speaks : goal.returns-clause-speaks
returns-clause-speaks c = λ log later base author commands replies s sound on. speaks_stays log later (extends_of log later sound on) base author commands replies s

pub returns-clause-spoken : goal.returns-clause-spoken
returns-clause-spoken c = spoken_stays
