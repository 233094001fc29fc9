use Rattle.std.proofs.Common.{ap, None}
use Rattle.dv_stopping.specs.Turns.{Replaces}
use Rattle.dv_stopping.proofs.Turns.{stopped}
use Rattle.dv_stopping.proofs.stopping.Stopping.pass_remove.Goals as goal

pub returns-in-Stops-clause-turn : goal.returns-in-Stops-clause-turn
returns-in-Stops-clause-turn g c =
    let S = g.S.Shelf in
    let laws = g.met.S.Shelf in
    let begun = c.in-Stops.ensures in
    stopped S.sees laws.counts_now laws.only_now (Replaces S.sees c.args.name None) _ c.args.self.now c.begin.new.self c.fail.new.self _ c.fail.result c.remove.result c.remove.new.self
    begun.turn begun.begun begun.inner (ap (λ s. s.inner) c.fail.ensures.others) (ap (λ s. s.stop) c.fail.ensures.others) (ap (λ s. s.left) c.fail.ensures.others)
    (record {
      puts = record {
        ok = c.remove.ensures.ok;
        err = c.remove.ensures.err;
        crash = c.remove.ensures.crash;
        time = c.remove.ensures.time;
        reads = c.remove.ensures.reads;
        once = c.remove.ensures.once;
      };
      durable = c.remove.ensures.durable;
    })
    c.remove.ensures.time c.fail.ensures.err
