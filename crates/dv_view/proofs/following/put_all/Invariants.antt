use Rattle.std.proofs.Common.{◌≡◌, ◌+◌, ◌≤◌, length, take, vec_capacity, vec_len}
use Rattle.std.specs.Prelude.{filter, nat_le}
use Rattle.std.specs.Vec.Iter.{into_iter_items, into_iter_len}
use Rattle.dv_model.specs.declared.types.Shown.{Shown}
use Rattle.dv_view.specs.Following.{given}
use Rattle.dv_view.specs.Orders.{AreRising}
use Rattle.dv_view.proofs.Renewing.{rows_put}
use Rattle.dv_view.proofs.Patching.{Rises}
use Rattle.dv_view.proofs.following.put_all.Given as goal

abbrev pub invariant-loop-f : goal.invariant-loop-f
invariant-loop-f l = record {
  inside : l.count ≤ vec_len l.rows;
  rising : AreRising (take l.count l.rows.items);
  left : into_iter_len l.f-iterator ≡ length (into_iter_items l.f-iterator);
  rises : Rises 0 (into_iter_items l.f-iterator);
  room : vec_len l.rows + length (filter (λ (s : Shown). nat_le l.next_uid s.uid) (given (into_iter_items l.f-iterator))) ≤ vec_capacity l.rows;
  rows : rows_put l.next_uid l.count l.rows.items (given (into_iter_items l.f-iterator)) ≡ rows_put l.next_uid l.count l.initial.rows.items (given l.fn.fresh.items);
}
