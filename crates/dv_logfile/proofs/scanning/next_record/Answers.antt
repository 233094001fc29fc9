use Rattle.std.proofs.Common.{◌-◌, drop, inr, refl, arith}
use Rattle.dv_logfile.proofs.Spots.{too_far, faulty}
use Rattle.dv_logfile.proofs.scanning.next_record.Goals as goal

pub returns-in-Ok-2-clause-fault : goal.returns-in-Ok-2-clause-fault
returns-in-Ok-2-clause-fault c =
    let there = c.in-Ok.ensures.found in
    inr (refl, too_far c.args.at (c.in-Ok.found.1 - c.args.at) (drop c.args.at c.args.b.now) c.in-Ok.found.0 there.1 (omega (arith, c.if-decode-le-LAST_END.false, there.0)))

pub returns-in_default : goal.returns-in_default
returns-in_default c =
    let fault = rw c.in-Err-Fault.field-0-is at c.in-Err-Fault.ensures.fault in
    record {
      record_at = tt;
      valid = tt;
      closed = tt;
      fault = inr (refl, faulty c.args.at (drop c.args.at c.args.b.now) c.in-Err-Fault.fault c.in_default.not-Closed fault);
    }
