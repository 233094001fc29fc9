use Rattle.std.proofs.Common.{◌≡◌}
use Rattle.dv_answer.proofs.Keeping.{record_leads}
use Rattle.dv_validity.proofs.Numbers.{record_keeps}
use Rattle.dv_bench.proofs.records.apply.Goals as goal

pub returns-clause-leads : goal.returns-clause-leads
returns-clause-leads c =
    record_leads c.args.live.now.mailbox c.apply_touched.new.self.mailbox c.args.r.now c.empty-touched.result c.apply_touched.new.touched c.next_uid-before.ensures.valid c.next_uid-behind.ensures.valid c.in_ok-apply_touched.ensures.ok
    c.empty-touched.ensures c.in_ok-apply_touched.ensures.touched

pub returns-clause-became : goal.returns-clause-became
returns-clause-became c = λ kept is.
    let before = c.args.live.now.mailbox in
    let after = c.apply_touched.new.self.mailbox in
    let table = (record_keeps before after c.args.r.now c.in_ok-apply_touched.ensures.ok).table in
    record {
      before = before;
      valid = c.next_uid-before.ensures.valid;
      is = is;
      leads = record_leads before after c.args.r.now c.empty-touched.result c.apply_touched.new.touched c.next_uid-before.ensures.valid c.next_uid-behind.ensures.valid c.in_ok-apply_touched.ensures.ok
          c.empty-touched.ensures c.in_ok-apply_touched.ensures.touched;
      more = table.0;
      table = table.1;
    }
