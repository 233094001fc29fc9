use Rattle.std.proofs.Common.{◌<◌, ℕ, List, length}
use Rattle.std.specs.Prelude.{All}
use Rattle.dv_model.specs.declared.types.Row.{Row}
use Rattle.dv_rows.specs.Adding.{AreGiven}
use Rattle.dv_rows.specs.declared.adding.Given.{Given}
use Rattle.dv_rows.proofs.adding.take_back.Given as goal

abbrev pub invariant-loop-last : goal.invariant-loop-last
invariant-loop-last l = record {
  inside : All (λ (g : Given). g.at < length l.initial.rows) l.given.items;
  given : (n : ℕ) (before : List Row) → AreGiven l.place n before l.initial.rows l.fn.given.items → AreGiven l.place n before l.rows l.given.items;
}

abbrev pub decreases-loop-last : goal.decreases-loop-last
decreases-loop-last l = goal.left-loop-last l
