use Rattle.std.proofs.Common.{ap}
use Rattle.dv_shelf.specs.Folders.{Lists}
use Rattle.dv_stopping.specs.Turns.{Looks}
use Rattle.dv_stopping.proofs.Turns.{stopped}
use Rattle.dv_stopping.proofs.stopping.Stopping.pass_list.Goals as goal

pub returns-in-Stops-clause-turn : goal.returns-in-Stops-clause-turn
returns-in-Stops-clause-turn g c =
    let S = g.S.Shelf in
    let laws = g.met.S.Shelf in
    let begun = c.in-Stops.ensures in
    stopped S.sees laws.counts_now laws.only_now (Looks S.sees (λ files names. Lists files names) (λ reads. reads)) _ c.args.self.now c.begin.new.self c.fail_look.new.self _ c.fail_look.result c.list.result c.list.new.self
    begun.turn begun.begun begun.inner (ap (λ s. s.inner) c.fail_look.ensures.others) (ap (λ s. s.stop) c.fail_look.ensures.others) (ap (λ s. s.left) c.fail_look.ensures.others)
    (record {
      here = c.list.ensures.found;
      kept = λ tells. record {
        files = c.list.ensures.files tells;
        crash = c.list.ensures.crash tells;
        time = c.list.ensures.time tells;
      };
      read = c.list.ensures.reads;
      once = c.list.ensures.once;
    })
    c.list.ensures.time c.fail_look.ensures.err
