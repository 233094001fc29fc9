use Rattle.std.proofs.Common.{◌-◌, drop, refl, arith}
use Rattle.dv_logfile.proofs.Spots.{too_far, faulty}
use Rattle.dv_logfile.proofs.scanning.next_place.Goals as goal

pub returns-in-Ok-2-clause-fault : goal.returns-in-Ok-2-clause-fault
returns-in-Ok-2-clause-fault c =
    let there = c.in-Ok.ensures.found in
    (refl, too_far c.args.at (c.in-Ok.behind - c.args.at) (drop c.args.at c.args.b.now) there.1.0 there.1.1 (omega (arith, c.if-behind-le-LAST_END.false, there.0)))

pub returns-in_default : goal.returns-in_default
returns-in_default c = record {
  record_at = tt;
  closed = tt;
  fault = (refl, faulty c.args.at (drop c.args.at c.args.b.now) c.in-Err.fault c.in_default.not-Closed c.in-Err.ensures.fault);
}
