use Rattle.std.proofs.Common.{◌≡◌, ℕ, ◌≤◌, length, Some}
use Rattle.std.specs.List.Sorted.{IsStrictlyIncreasing}
use Rattle.dv_model.specs.declared.types.Mailbox.{Mailbox}
use Rattle.dv_model.specs.Effects.{applied}
use Rattle.dv_model.specs.Fresh.{IsTouched}
use Rattle.dv_apply.proofs.Lightness.{IsFoundSoFar}
use Rattle.dv_apply.specs.States.{IsKept, kept_of, mailbox_of}
use Rattle.dv_apply.proofs.light.touched_by.Given as goal

abbrev pub invariant-loop-rest : goal.invariant-loop-rest
invariant-loop-rest l = record {
  is : kept_of l.state ≡ kept_of l.fn.state;
  kept : IsKept l.state;
  rising : IsStrictlyIncreasing l.rest;
  some : 1 ≤ l.many;
  found : (after : Mailbox) → applied (mailbox_of l.fn.state) l.records ≡ Some after → (uid : ℕ) → IsFoundSoFar (IsTouched (mailbox_of l.fn.state) after uid) l.touched l.rest l.uids uid;
}

abbrev pub decreases-loop-rest : goal.decreases-loop-rest
decreases-loop-rest l = length l.rest
