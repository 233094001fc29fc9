use Rattle.dv_memory_system.proofs.Torn.{written_samples}
use Rattle.dv_memory_system.proofs.samples.Samples.written.Goals as goal

pub returns : goal.returns
returns c = λ v n short are.
    written_samples c.args.at n c.args.stuck.now c.args.half.now v c.args.self c.in_ok-read.read c.in_ok-torn.torn c.requires short c.in_ok-read.ensures c.in_ok-torn.ensures are
