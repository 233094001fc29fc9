use Rattle.dv_promises.proofs.Holding.{holds}
use Rattle.dv_schedules.specs.Calls.{all_called}
use Rattle.dv_schedules.proofs.Weaving.{are_interleaved, calls_keep, serial_interleaved}
use Rattle.dv_schedules.proofs.laws.transcripts_are_interleaved.Goals as goal

pub returns-clause-calls : goal.returns-clause-calls
returns-clause-calls c = λ w calls stands good. let kept = calls_keep w calls stands good in (kept, holds (all_called w calls) kept)

pub returns-clause-transcripts : goal.returns-clause-transcripts
returns-clause-transcripts c = are_interleaved

pub returns-clause-serial : goal.returns-clause-serial
returns-clause-serial c = serial_interleaved
