use Rattle.std.proofs.Common.{List, length, arith, ap, subst}
use Rattle.std.proofs.lemmas.List.{take_all}
use Rattle.dv_shelf.specs.declared.record.Call.{Call}
use Rattle.dv_shelf.specs.Disks.{files_after}
use Rattle.dv_shelf.specs.Records.{made_calls}
use Rattle.dv_shelf.proofs.NameLemmas.{ListsOf, names_on, all_named}
use Rattle.dv_shelf.proofs.record.Record.names.Goals as goal

pub loop-call-preserved : goal.loop-call-preserved
loop-call-preserved c =
    names_on (files_after (made_calls c.args.self.now)) c.args.self.now.calls.items _ c.loop-call.call-index _ c.loop-call.names _ c.deref-call-items.ensures.value c.loop-call-test.true c.loop-call.invariant c.in_ok-add_name.ensures

pub returns : goal.returns
returns c =
    let calls = c.args.self.now.calls.items in
    all_named c.args.self.now.bytes.items calls c.loop-call.names
    (subst (λ (l : List Call). ListsOf (files_after (made_calls c.args.self.now)) l c.loop-call.names) (take_all c.loop-call.call-index calls (omega (arith, ap length c.deref-call-items.ensures.value))) c.loop-call.invariant)
