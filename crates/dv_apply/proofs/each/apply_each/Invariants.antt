use Rattle.std.proofs.Common.{◌≡◌, Some, take}
use Rattle.std.specs.Prelude.{All}
use Rattle.dv_model.specs.Effects.{applied}
use Rattle.dv_validity.specs.Laws.{GrowsTo, IsInRange}
use Rattle.dv_apply.specs.States.{IsKept, mailbox_of}
use Rattle.dv_apply.proofs.each.apply_each.Given as goal

abbrev pub invariant-loop-record : goal.invariant-loop-record
invariant-loop-record l = record {
  is : applied (mailbox_of l.initial.state) (take l.record-index l.records) ≡ Some (mailbox_of l.state);
  range : All (λ r. IsInRange r.body) (take l.record-index l.records);
  names : GrowsTo l.initial.state.names.names l.state.names.names;
  kept : IsKept l.state;
}
