use Rattle.dv_store.proofs.Opened.{stands_opened}
use Rattle.dv_store.proofs.store.Store.create.Goals as goal

pub returns-in-Ok-clause-made : goal.returns-in-Ok-clause-made
returns-in-Ok-clause-made g c =
    let S = g.S.Shelf in
    let done = c.in-Ok.ensures in
    rw c.fresh.ensures (record {
      at = c.now-now.result;
      small = c.is_number.ensures;
      clock = λ reads. c.now-now.ensures.reading reads;
      is = record {
        first = done.first.0;
        files = λ tells. done.files tells;
        quiet = λ tells none settled. record {
          since = done.since tells settled;
          settled = done.settled tells settled;
          rests = done.rests tells none settled;
          stands = λ log named keeps. stands_opened S.sees log c.in-Ok.chain (S.sees.files c.args.shelf) c.create.new.shelf _ (done.files tells) (done.settled tells settled) (done.rests tells none settled) named keeps;
        };
      };
    })

pub returns-in-Err-clause-made : goal.returns-in-Err-clause-made
returns-in-Err-clause-made g c =
    let failed = c.in-Err.ensures in
    record {
      at = c.now-now.result;
      small = c.is_number.ensures;
      clock = λ reads. c.now-now.ensures.reading reads;
      is = record {
        first = tt;
        files = λ tells. failed.files tells;
        quiet = λ tells none settled. record {
          since = failed.since tells settled;
          settled = failed.settled tells settled;
          rests = tt;
          stands = tt;
        };
      };
    }
