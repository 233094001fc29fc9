use Rattle.dv_logfile.proofs.OneScan.{scans_one}
use Rattle.dv_logfile.proofs.scanning.one_scan.Goals as goal

pub returns : goal.returns
returns c = scans_one
