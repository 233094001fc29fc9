use Rattle.dv_rows.proofs.Counting.{recount_fits}
use Rattle.dv_rows.proofs.counts.put_note.Goals as goal

pub recount-counts-requires-clause-fits : goal.recount-counts-requires-clause-fits
recount-counts-requires-clause-fits c = recount_fits 8 c.args.notes.now c.args.at c.args.new c.args.counts.now.seen c.requires.inside c.requires.few c.requires.tally.seen

pub recount-counts-requires-2-clause-fits : goal.recount-counts-requires-2-clause-fits
recount-counts-requires-2-clause-fits c = recount_fits 4 c.args.notes.now c.args.at c.args.new c.args.counts.now.deleted c.requires.inside c.requires.few c.requires.tally.deleted
