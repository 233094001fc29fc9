use Rattle.std.proofs.Common.{ap}
use Rattle.dv_stopping.specs.Turns.{WritesAt}
use Rattle.dv_stopping.proofs.Turns.{stopped}
use Rattle.dv_stopping.proofs.stopping.Stopping.pass_write_at.Goals as goal

pub returns-in-Stops-clause-turn : goal.returns-in-Stops-clause-turn
returns-in-Stops-clause-turn g c =
    let S = g.S.Shelf in
    let laws = g.met.S.Shelf in
    let begun = c.in-Stops.ensures in
    stopped S.sees laws.counts_now laws.only_now (WritesAt S.sees c.args.name c.args.at c.args.bytes.now) _ c.args.self.now c.begin.new.self c.fail.new.self _ c.fail.result c.write_at.result c.write_at.new.self
    begun.turn begun.begun begun.inner (ap (λ s. s.inner) c.fail.ensures.others) (ap (λ s. s.stop) c.fail.ensures.others) (ap (λ s. s.left) c.fail.ensures.others)
    (record {
      ok = c.write_at.ensures.ok;
      err = c.write_at.ensures.err;
      crash = c.write_at.ensures.crash;
      time = c.write_at.ensures.time;
      reads = c.write_at.ensures.reads;
      once = c.write_at.ensures.once;
    })
    c.write_at.ensures.time c.fail.ensures.err
