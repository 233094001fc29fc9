use Rattle.std.proofs.Common.{◌≡◌, Some, ap}
use Rattle.std.specs.Prelude.{option_and_then}
use Rattle.dv_model.specs.Effects.{applied}
use Rattle.dv_answer.proofs.Keeping.{record_leads}
use Rattle.dv_validity.proofs.Numbers.{record_keeps}
use Rattle.dv_tests_live.proofs.follower.apply.Goals as goal

pub returns-in-Ok : goal.returns-in-Ok
returns-in-Ok c = λ kept is.
    let before = c.args.live.now.mailbox in
    let after = c.apply_touched.new.self.mailbox in
    let r = c.in_ok-record.record in
    let table = (record_keeps before after r c.in-Ok.ensures.ok).table in
    record {
      before = before;
      valid = c.next_uid-before.ensures.valid;
      is = is;
      leads = record_leads before after r c.empty-touched.result c.apply_touched.new.touched c.next_uid-before.ensures.valid c.next_uid-behind.ensures.valid c.in-Ok.ensures.ok
          c.empty-touched.ensures c.in-Ok.ensures.touched;
      more = table.0;
      table = table.1;
    }
