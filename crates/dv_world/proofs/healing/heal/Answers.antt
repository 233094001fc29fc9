use Rattle.std.proofs.Common.{None, refl}
use Rattle.dv_promises.proofs.Small.{healed}
use Rattle.dv_world.specs.Shapes.{kept_world}
use Rattle.dv_world.proofs.Stays.{kept_same}
use Rattle.dv_world.proofs.healing.heal.Goals as goal

pub returns-clause-kept : goal.returns-clause-kept
returns-clause-kept c =
    let k = c.args.kept.now in
    kept_same k (record k { pending = None }) c.requires (record { log = refl; logged = refl; published = refl; front = refl; end = refl }) (healed (kept_world k) c.requires.stands) tt c.requires.seats
