use Rattle.std.proofs.Common.{◌≤◌, length, arith}
use Rattle.dv_formats.proofs.Passing.{which_version}
use Rattle.dv_index.proofs.Records.{modseq_one, modseq_two}
use Rattle.dv_index.proofs.reading.records.read_modseq.Goals as goal

pub returns-then-version-eq1-clause-some : goal.returns-then-version-eq1-clause-some
returns-then-version-eq1-clause-some c = modseq_one c.args.version c.args.highest c.split_at.result.1.now c.args.bytes.now c.if-version-eq1.true c.requires.highest c.split_at.ensures.back

pub returns-clause-some : goal.returns-clause-some
returns-clause-some c =
    let long : 16 ≤ length c.args.bytes.now = omega arith in
    modseq_two c.args.version c.args.highest c.u64_at-modseq.result c.split_at-2.result.1.now c.args.bytes.now (which_version c.args.version c.requires.version) c.if-version-eq1.false long (λ i. let fits = c.type_inv.bytes i in omega (arith, fits)) (omega arith, omega arith) c.u64_at-modseq.ensures c.split_at-2.ensures.back
