-- A session whose write was answered isn't spent.
use Rattle.std.proofs.Common.{◌≡◌, ◌∙◌, List, Ok, Err, Result, false, ap}
use Rattle.std.specs.Prelude.{OnOk}
use Rattle.dv_front.specs.declared.notes.Note.{Note}
use Rattle.dv_keeper.specs.declared.fault.SessionFault.{SessionFault}
use Rattle.dv_keeper.specs.Turns.{LeavesWriter}
use Rattle.dv_member.specs.Members.{Member}
use Rattle.dv_plans.specs.declared.fault.StoreFault.{StoreFault}
use Rattle.dv_shared.specs.declared.written.Written.{Written}

pub writer_fresh : (notes now : List Note) (came : Result Written StoreFault) (old new : Member) (result : Result (Unit {0}) SessionFault) → old.spent ≡ false → LeavesWriter notes now came old new result → OnOk result (new.spent ≡ false)
writer_fresh notes now (Ok w) old new (Ok done) fresh leaves = ap (λ (s : Member). s.spent) leaves.1.now ∙ fresh
writer_fresh notes now (Err e) old new (Ok done) fresh leaves = ap (λ (s : Member). s.spent) leaves.1.now ∙ fresh
writer_fresh notes now came old new (Err e) fresh leaves = tt
