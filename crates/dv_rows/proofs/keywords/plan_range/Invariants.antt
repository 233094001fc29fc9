use Rattle.std.proofs.Common.{◌≡◌, ◌-◌, ◌<◌, ◌≤◌, ℕ, true, List, length, get_or}
use Rattle.std.specs.Prelude.{All}
use Rattle.dv_model.specs.declared.types.Pair.{Pair}
use Rattle.dv_model.specs.declared.types.Row.{Row}
use Rattle.dv_model.specs.Effects.{is_in_pair, is_in_pairs}
use Rattle.dv_rows.specs.Plans.{IsPlanned, IsRight}
use Rattle.dv_rows.proofs.keywords.plan_range.Given as goal

abbrev pub invariant-loop-at : goal.invariant-loop-at
invariant-loop-at l = record {
  from : l.initial.at ≤ l.at;
  right : (pairs : List Pair) → ((uid : ℕ) → is_in_pair uid l.pair ≡ true → is_in_pairs pairs uid ≡ true) → All (IsRight pairs l.how l.place l.rows) l.initial.others.items → All (IsRight pairs l.how l.place l.rows) l.others.items;
  more : (k : ℕ) → IsPlanned l.how l.place l.rows l.initial.others.items k → IsPlanned l.how l.place l.rows l.others.items k;
  done : (k : ℕ) (d : Row) → k < l.at → k < length l.rows → is_in_pair (get_or l.rows k d).uid l.pair ≡ true → IsPlanned l.how l.place l.rows l.others.items k;
}

abbrev pub decreases-loop-at : goal.decreases-loop-at
decreases-loop-at l = length l.rows - l.at
