use Rattle.std.proofs.Common.{refl, arith}
use Rattle.std.proofs.lemmas.Bool.{eq-eqb}
use Rattle.dv_records.proofs.Checked.{reset_four, reset_told}
use Rattle.dv_records.proofs.checking.is_reset.Goals as goal

pub returns-then-bytes-eq4 : goal.returns-then-bytes-eq4
returns-then-bytes-eq4 c = reset_four c.args.bytes.now _ (λ i. omega (arith, c.type_inv.bytes i)) c.if-bytes-eq4.true (eq-eqb _ _ c.if-bytes-eq4.true)

pub returns-else-bytes-eq4 : goal.returns-else-bytes-eq4
returns-else-bytes-eq4 c = reset_told c.args.bytes.now _ (λ i. omega (arith, c.type_inv.bytes i)) c.if-bytes-eq4.false refl
