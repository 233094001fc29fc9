use Rattle.std.proofs.Common.{sym}
use Rattle.std.specs.Prelude.{bytes_eq}
use Rattle.dv_world.proofs.Items.{other_lengths}
use Rattle.dv_world.proofs.same.same_names.Goals as goal

pub returns-then-one-other : goal.returns-then-one-other
returns-then-one-other c = sym (other_lengths bytes_eq c.args.one.now c.args.other.now (λ e. c.if-one-other.true e))
