use Rattle.std.proofs.Common.{refl, subst, sym, arith, ℕ}
use Rattle.dv_model.specs.Spelling.{IsReset}
use Rattle.std.proofs.Common.{get_or}
use Rattle.dv_records.proofs.Resets.{reset_of_eight}
use Rattle.dv_records.proofs.bodies.read_reset.Goals as goal

pub returns-in-8 : goal.returns-in-8
returns-in-8 c = (refl, subst (λ (n : ℕ). IsReset n (get_or c.args.bytes.now 4 0) c.args.bytes.now) (sym c.u32_at-in-8.ensures) (reset_of_eight c.args.bytes.now (λ i. omega (arith, c.type_inv.bytes i)) c.in-8.is))
