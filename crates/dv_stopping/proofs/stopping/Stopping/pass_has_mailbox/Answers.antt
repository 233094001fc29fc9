use Rattle.std.proofs.Common.{ap}
use Rattle.std.specs.Prelude.{MatchBool}
use Rattle.dv_shelf.specs.Folders.{IsNew}
use Rattle.dv_stopping.specs.Turns.{Looks}
use Rattle.dv_stopping.proofs.Turns.{stopped}
use Rattle.dv_stopping.proofs.stopping.Stopping.pass_has_mailbox.Goals as goal

pub returns-in-Stops-clause-turn : goal.returns-in-Stops-clause-turn
returns-in-Stops-clause-turn g c =
    let S = g.S.Shelf in
    let laws = g.met.S.Shelf in
    let begun = c.in-Stops.ensures in
    stopped S.sees laws.counts_now laws.only_now (Looks S.sees (λ files has. MatchBool has (IsNew files → ⊥) (IsNew files)) (λ reads. reads)) _ c.args.self.now c.begin.new.self c.fail_look.new.self _ c.fail_look.result c.has_mailbox.result c.has_mailbox.new.self
    begun.turn begun.begun begun.inner (ap (λ s. s.inner) c.fail_look.ensures.others) (ap (λ s. s.stop) c.fail_look.ensures.others) (ap (λ s. s.left) c.fail_look.ensures.others)
    (record {
      here = c.has_mailbox.ensures.found;
      kept = λ tells. record {
        files = c.has_mailbox.ensures.files tells;
        crash = c.has_mailbox.ensures.crash tells;
        time = c.has_mailbox.ensures.time tells;
      };
      read = c.has_mailbox.ensures.reads;
      once = c.has_mailbox.ensures.once;
    })
    c.has_mailbox.ensures.time c.fail_look.ensures.err
