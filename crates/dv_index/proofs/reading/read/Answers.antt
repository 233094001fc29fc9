use Rattle.dv_index.proofs.Outcomes.{every_of, only_of}
use Rattle.dv_index.proofs.reading.read.Goals as goal

pub returns-clause-only : goal.returns-clause-only
returns-clause-only c = only_of c.args.b.now c.read_text.result c.read_text.ensures.found c.read_text.ensures.fault

pub returns-clause-every : goal.returns-clause-every
returns-clause-every c = every_of c.args.b.now c.read_text.result c.read_text.ensures.found c.read_text.ensures.fault
