use Rattle.std.proofs.Common.{ap}
use Rattle.dv_stopping.specs.Turns.{Syncs}
use Rattle.dv_stopping.proofs.Turns.{stopped}
use Rattle.dv_stopping.proofs.stopping.Stopping.pass_sync.Goals as goal

pub returns-in-Stops-clause-turn : goal.returns-in-Stops-clause-turn
returns-in-Stops-clause-turn g c =
    let S = g.S.Shelf in
    let laws = g.met.S.Shelf in
    let begun = c.in-Stops.ensures in
    stopped S.sees laws.counts_now laws.only_now (Syncs S.sees c.args.name) _ c.args.self.now c.begin.new.self c.fail.new.self _ c.fail.result c.sync.result c.sync.new.self
    begun.turn begun.begun begun.inner (ap (λ s. s.inner) c.fail.ensures.others) (ap (λ s. s.stop) c.fail.ensures.others) (ap (λ s. s.left) c.fail.ensures.others)
    (record {
      durable = c.sync.ensures.durable;
      kept = λ tells. record {
        files = c.sync.ensures.files tells;
        crash = c.sync.ensures.crash tells;
        time = c.sync.ensures.time tells;
      };
      reads = c.sync.ensures.reads;
      once = c.sync.ensures.once;
    })
    c.sync.ensures.time c.fail.ensures.err
