use Rattle.dv_keywords.proofs.Shown.{more}
use Rattle.dv_keywords.proofs.table.Table.show.Goals as goal

pub returns : goal.returns
returns c = more c.self.inside.names.items c.self.inside.shown c.args.count c.args.self.now c.self.view_is
