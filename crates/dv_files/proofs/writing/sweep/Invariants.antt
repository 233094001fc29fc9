use Rattle.std.proofs.Common.{◌≡◌, ◌≤◌, take}
use Rattle.dv_files.specs.Leavings.{Leaves}
use Rattle.dv_files.specs.Writing.{IsSweeping, IsSwept}
use Rattle.dv_files.proofs.writing.sweep.Given as goal

abbrev pub invariant-loop-uid : goal.invariant-loop-uid
invariant-loop-uid g l = record {
  leaves : g.S.Shelf.sees.tells → Leaves g.S.Shelf.sees (IsSwept (take l.uid-index l.uids)) (IsSweeping l.uids) l.initial.shelf l.shelf;
  mail_reads : g.S.Shelf.sees.mail_reads l.shelf ≡ g.S.Shelf.sees.mail_reads l.initial.shelf;
  later : g.S.Shelf.sees.fault_count l.initial.shelf ≤ g.S.Shelf.sees.fault_count l.shelf;
}
