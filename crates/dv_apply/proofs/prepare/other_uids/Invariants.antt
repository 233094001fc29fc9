use Rattle.std.proofs.Common.{take}
use Rattle.dv_apply.proofs.Others.{AreOthers}
use Rattle.dv_apply.proofs.prepare.other_uids.Given as goal

abbrev pub invariant-loop-row : goal.invariant-loop-row
invariant-loop-row l = AreOthers l.uids (take l.row-index l.rows) l.others.items
