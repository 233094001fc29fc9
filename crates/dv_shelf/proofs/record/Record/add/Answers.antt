use Rattle.std.proofs.Common.{◌≡◌, ◌+◌, ◌++◌, List, length, map, arith, ap, ◌∙◌, ℕ, is_ok, length-append}
use Rattle.dv_shelf.specs.declared.record.Call.{Call}
use Rattle.dv_shelf.specs.Records.{made_call}
use Rattle.dv_shelf.proofs.RecordLemmas.{one_call_more, still_within}
use Rattle.dv_shelf.proofs.record.Record.add.Goals as goal

pub invariant_of-self-clause-within : goal.invariant_of-self-clause-within
invariant_of-self-clause-within c =
    let old = c.args.self.now in
    let long : length c.extend_from_slice.new.self.items ≡ length old.bytes.items + length c.args.bytes.now = ap length c.in-Ok.ensures.items ∙ length-append old.bytes.items c.args.bytes.now in
    let from : c.len-from.result ≡ length old.bytes.items = omega (arith, old.bytes.ok.0) in
    still_within old.calls.items c.push.new.self.items _ (length old.bytes.items) (length c.extend_from_slice.new.self.items) (is_ok c.push.result) old.within (omega arith) (omega arith) c.push.ensures.items

pub returns-clause-calls : goal.returns-clause-calls
returns-clause-calls c =
    let old = c.args.self.now in
    let bytes = ap (λ (b : List ℕ). map (made_call b) c.push.new.self.items) c.in-Ok.ensures.items in
    let calls = ap (λ (l : List Call). map (made_call (old.bytes.items ++ c.args.bytes.now)) l) c.in-Ok-push.ensures.items in
    bytes ∙ calls ∙ one_call_more old.bytes.items c.args.bytes.now old.calls.items _ old.within (omega (arith, old.bytes.ok.0)) (omega arith)
