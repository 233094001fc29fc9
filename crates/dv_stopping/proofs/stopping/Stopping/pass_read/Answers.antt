use Rattle.std.proofs.Common.{◌≡◌, ap}
use Rattle.dv_shelf.specs.Folders.{counted, mail_reads_of}
use Rattle.dv_stopping.specs.Turns.{Looks}
use Rattle.dv_stopping.proofs.Turns.{stopped}
use Rattle.dv_stopping.proofs.stopping.Stopping.pass_read.Goals as goal

pub returns-in-Stops-clause-turn : goal.returns-in-Stops-clause-turn
returns-in-Stops-clause-turn g c =
    let S = g.S.Shelf in
    let laws = g.met.S.Shelf in
    let begun = c.in-Stops.ensures in
    stopped S.sees laws.counts_now laws.only_now (Looks S.sees (λ files bytes. bytes ≡ files c.args.name) (λ reads. counted reads (mail_reads_of c.args.name))) _ c.args.self.now c.begin.new.self c.fail_look.new.self _ c.fail_look.result c.read.result c.read.new.self
    begun.turn begun.begun begun.inner (ap (λ s. s.inner) c.fail_look.ensures.others) (ap (λ s. s.stop) c.fail_look.ensures.others) (ap (λ s. s.left) c.fail_look.ensures.others)
    (record {
      here = c.read.ensures.found;
      kept = λ tells. record {
        files = c.read.ensures.files tells;
        crash = c.read.ensures.crash tells;
        time = c.read.ensures.time tells;
      };
      read = c.read.ensures.reads;
      once = c.read.ensures.once;
    })
    c.read.ensures.time c.fail_look.ensures.err
