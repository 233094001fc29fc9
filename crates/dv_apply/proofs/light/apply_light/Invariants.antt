use Rattle.std.proofs.Common.{◌≡◌, Some, take}
use Rattle.dv_model.specs.Effects.{applied}
use Rattle.dv_ext.specs.Sizes.{sizes_of}
use Rattle.dv_apply.specs.States.{IsKept, mailbox_of}
use Rattle.dv_apply.proofs.light.apply_light.Given as goal

abbrev pub invariant-loop-r : goal.invariant-loop-r
invariant-loop-r l = record {
  is : applied (mailbox_of l.fn.state) (take l.r-index l.records) ≡ Some (mailbox_of l.state);
  kept : IsKept l.state;
  spare : l.state.spare ≡ l.fn.state.spare;
  sizes : sizes_of l.state.extensions.extensions ≡ sizes_of l.fn.state.extensions.extensions;
  first : l.r-index ≡ 0 → l.state.extensions.extensions ≡ l.fn.state.extensions.extensions;
}
