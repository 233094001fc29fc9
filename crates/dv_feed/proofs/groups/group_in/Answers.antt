use Rattle.std.proofs.Common.{◌≡◌, Err, ◌∙◌, ap, subst, rules}
use Rattle.dv_records.specs.declared.fault.DecodeEnd.TheVariants.{Fault}
use Rattle.dv_feed.proofs.Decoding.{ReadsOnly, no_fault, read_whole, reads_on}
use Rattle.dv_feed.proofs.groups.group_in.Goals as goal

pub loop-at-preserved : goal.loop-at-preserved
loop-at-preserved c =
    let on = reads_on c.args.text.now c.loop-at.records c.loop-at.at c.in-Ok.record c.in-Ok.next c.loop-at-test.true c.in-Ok.ensures.only c.requires c.loop-at.invariant in
    rw c.in_ok-push-in-Ok.ensures.ok on.1

pub unreachable-requires : goal.unreachable-requires
unreachable-requires c =
    let is : c.decode.result ≡ Err (Fault c.in-Err-Fault.field-0-0) = c.in-Err-Fault.is ∙ ap Err c.in-Err-Fault.field-0-is in
    no_fault c.args.text.now c.loop-at.records c.loop-at.at c.in-Err-Fault.field-0-0 c.loop-at-test.true (subst (λ res. ReadsOnly c.args.text.now c.loop-at.at res) is c.decode.ensures.only) c.requires c.loop-at.invariant

pub returns : goal.returns
returns c = read_whole c.args.text.now c.loop-at.records c.loop-at.at (search rules) c.loop-at.invariant
