use Rattle.std.proofs.Common.{refl}
use Rattle.dv_rebuild.proofs.Plans.{front_none, front_some}
use Rattle.dv_rebuild.proofs.reading.front.Goals as goal

pub returns-in_ok-read-in-Some-clause-front : goal.returns-in_ok-read-in-Some-clause-front
returns-in_ok-read-in-Some-clause-front c = front_some c.in-Some.header c.args.bytes c.in_ok-cut-in-Some.field-0 c.in_ok-read-in-Some.field-0 c.in_ok-cut-in-Some.ensures c.in_ok-read-in-Some.ensures.read

pub returns-in-None-clause-front : goal.returns-in-None-clause-front
returns-in-None-clause-front c = front_none c.as_slice.result.now c.args.bytes c.as_slice.ensures (c.in-None.ensures.none refl)
