use Rattle.dv_watching.proofs.Shallow.{read_shallow}
use Rattle.dv_watching.proofs.keys.steady_key.Goals as goal

pub where_steady-requires : goal.where_steady-requires
where_steady-requires c = read_shallow c.args.text.now c.in-Ok.key c.in-Ok.ensures
