use Rattle.std.proofs.Common.{◌≡◌, ◌+◌, ◌≤◌, drop, length}
use Rattle.std.specs.Prelude.{filter, nat_le}
use Rattle.dv_model.specs.declared.types.Shown.{Shown}
use Rattle.dv_view.specs.Following.{given}
use Rattle.dv_view.proofs.following.count_new.Given as goal

abbrev pub invariant-loop-f : goal.invariant-loop-f
invariant-loop-f l = record {
  few : l.count ≤ l.f-index;
  counted : l.count + length (filter (λ (s : Shown). nat_le l.next_uid s.uid) (given (drop l.f-index l.fresh))) ≡ length (filter (λ (s : Shown). nat_le l.next_uid s.uid) (given l.fresh));
}
