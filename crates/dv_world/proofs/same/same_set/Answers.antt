use Rattle.std.proofs.Common.{sym}
use Rattle.std.specs.Prelude.{◌&&◌}
use Rattle.dv_model.specs.declared.types.Span.{Span}
use Rattle.dv_interleavings.specs.Worlds.{same_end}
use Rattle.dv_world.proofs.Items.{other_lengths}
use Rattle.dv_world.proofs.same.same_set.Goals as goal

pub returns-then-one-other : goal.returns-then-one-other
returns-then-one-other c = sym (other_lengths (λ (a b : Span). same_end a.from b.from && same_end a.to b.to) c.args.one.now c.args.other.now (λ e. c.if-one-other.true e))
