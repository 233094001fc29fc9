use Rattle.std.proofs.Common.{◌≡◌, ◌<◌, ℕ, true, length, get_or, take}
use Rattle.std.specs.Prelude.{All}
use Rattle.dv_model.specs.declared.types.Row.{Row}
use Rattle.dv_model.specs.Effects.{is_in_pairs}
use Rattle.dv_rows.specs.Plans.{IsPlanned, IsRight}
use Rattle.dv_rows.proofs.keywords.plan.Given as goal

abbrev pub invariant-loop-pair : goal.invariant-loop-pair
invariant-loop-pair l = record {
  right : All (IsRight l.pairs l.how l.place l.rows) l.others.items;
  done : (k : ℕ) (d : Row) → k < length l.rows → is_in_pairs (take l.pair-index l.pairs) (get_or l.rows k d).uid ≡ true → IsPlanned l.how l.place l.rows l.others.items k;
}
