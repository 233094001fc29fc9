use Rattle.dv_stories.proofs.Serials.{serial_stories}
use Rattle.dv_stories.proofs.Written.{written_by_all}
use Rattle.dv_stories.proofs.laws.entries_are_written.Goals as goal

pub returns-clause-all : goal.returns-clause-all
returns-clause-all c = written_by_all

pub returns-clause-serial : goal.returns-clause-serial
returns-clause-serial c = serial_stories
