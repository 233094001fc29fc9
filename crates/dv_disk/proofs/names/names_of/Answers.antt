use Rattle.dv_disk.proofs.Listing.{names_more}
use Rattle.dv_disk.proofs.names.names_of.Goals as goal

pub loop-entry-preserved : goal.loop-entry-preserved
loop-entry-preserved c =
    names_more c.args.entries.now c.loop-entry.entry-index _ c.loop-entry.names _ c.loop-entry-test.true c.loop-entry.invariant c.in_ok-add_name.ensures
