use Rattle.dv_shelf.specs.Records.{made_calls}
use Rattle.dv_shelf.proofs.SampleSteps.{SamplesUpto}
use Rattle.dv_shelf.proofs.record.Record.images.Given as goal

abbrev pub invariant-loop-i : goal.invariant-loop-i
invariant-loop-i l = SamplesUpto (made_calls l.self) l.i l.images
