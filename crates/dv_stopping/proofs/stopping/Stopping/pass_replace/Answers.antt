use Rattle.std.proofs.Common.{ap, Some}
use Rattle.dv_stopping.specs.Turns.{Replaces}
use Rattle.dv_stopping.proofs.Turns.{stopped}
use Rattle.dv_stopping.proofs.stopping.Stopping.pass_replace.Goals as goal

pub returns-in-Stops-clause-turn : goal.returns-in-Stops-clause-turn
returns-in-Stops-clause-turn g c =
    let S = g.S.Shelf in
    let laws = g.met.S.Shelf in
    let begun = c.in-Stops.ensures in
    stopped S.sees laws.counts_now laws.only_now (Replaces S.sees c.args.name (Some c.args.bytes.now)) _ c.args.self.now c.begin.new.self c.fail.new.self _ c.fail.result c.replace.result c.replace.new.self
    begun.turn begun.begun begun.inner (ap (λ s. s.inner) c.fail.ensures.others) (ap (λ s. s.stop) c.fail.ensures.others) (ap (λ s. s.left) c.fail.ensures.others)
    (record {
      puts = record {
        ok = c.replace.ensures.ok;
        err = c.replace.ensures.err;
        crash = c.replace.ensures.crash;
        time = c.replace.ensures.time;
        reads = c.replace.ensures.reads;
        once = c.replace.ensures.once;
      };
      durable = c.replace.ensures.durable;
    })
    c.replace.ensures.time c.fail.ensures.err
