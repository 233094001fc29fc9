use Rattle.std.proofs.Common.{◌++◌, List, ◌∙◌, ap}
use Rattle.std.specs.Prelude.{reverse}
use Rattle.dv_qresync.specs.declared.types.Cached.{Cached}
use Rattle.dv_qresync.proofs.Merged.{moved_back, with_rows}
use Rattle.dv_qresync.proofs.merging.rewind.Goals as goal

pub loop-row-preserved : goal.loop-row-preserved
loop-row-preserved c =
    ap (with_rows c.loop-row.merge.uid_validity c.loop-row.merge.highest)
    (ap (λ (cs : List Cached). c.pop.new.self.items ++ reverse cs) c.in_ok-push.ensures.items
    ∙ moved_back c.loop-row.merge.before.items c.pop.new.self.items c.loop-row.merge.after.items c.in-Some.row c.in-Some.ensures.items)
    ∙ c.loop-row.invariant
