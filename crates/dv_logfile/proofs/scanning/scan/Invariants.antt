use Rattle.std.proofs.Common.{◌-◌, length}
use Rattle.dv_logfile.proofs.Spots.{IsReadTo}
use Rattle.dv_logfile.proofs.scanning.scan.Given as goal

abbrev pub invariant-loop-records : goal.invariant-loop-records
invariant-loop-records l = IsReadTo l.header l.places l.records l.b l.at

abbrev pub decreases-loop-records : goal.decreases-loop-records
decreases-loop-records l = length l.b - l.at
