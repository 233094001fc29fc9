use Rattle.std.proofs.Common.{rules, arith}
use Rattle.dv_model.specs.Views.{empty_view}
use Rattle.dv_model.specs.declared.types.Step.TheVariants.{Full}
use Rattle.dv_view.specs.Orders.{IsOrdered}
use Rattle.dv_view.proofs.Moving.{ordered_after}
use Rattle.dv_view.proofs.view.View.of.Goals as goal

-- before anything was shown
nothing_ordered : IsOrdered empty_view
nothing_ordered = record { rising = search rules; below = λ i d less. absurd (omega (arith, less)); next_uid = omega arith }

pub invariant_of-result : goal.invariant_of-result
invariant_of-result c =
    ordered_after Full c.args.live.now.mailbox empty_view c.in_ok-rows.rows c.next_uid-next_uid.result c.in_ok-rows.ensures c.next_uid-next_uid.ensures.is nothing_ordered c.next_uid-next_uid.ensures.valid c.next_uid-next_uid.ensures.valid.next_uid.0
