use Rattle.std.proofs.Common.{◌+◌, ap}
use Rattle.dv_cache.proofs.Places.{adds_row}
use Rattle.dv_cache.proofs.writing.CacheText.add.Goals as goal

pub returns-else-is_err : goal.returns-else-is_err
returns-else-is_err c =
    adds_row c.args.self.now c.self.inside.first c.self.inside.entries c.self.inside.texts c.args.row.now (c.self.inside.first + c.len.result) _ _
    c.write_row-written.result c.self.view_is (ap (λ n. c.self.inside.first + n) c.len.ensures) c.write_row-written.ensures.entries c.write_row-written.ensures.texts
