use Rattle.std.proofs.Common.{◌<◌, ℕ, List, length}
use Rattle.std.specs.Prelude.{All}
use Rattle.dv_model.specs.declared.types.How.{How}
use Rattle.dv_model.specs.declared.types.Pair.{Pair}
use Rattle.dv_rows.specs.Plans.{IsPlan}
use Rattle.dv_rows.proofs.Putting.{IsPutTo}
use Rattle.dv_rows.proofs.keywords.put_others.Given as goal

abbrev pub invariant-loop-other : goal.invariant-loop-other
invariant-loop-other l = record {
  inside : All (λ other. other.at < length l.initial.rows) l.others.items;
  put : (pairs : List Pair) (how : How) (place : ℕ) → IsPlan pairs how place l.initial.rows l.fn.others.items → IsPutTo pairs how place l.modseq l.initial.rows l.rows l.others.items;
}

abbrev pub decreases-loop-other : goal.decreases-loop-other
decreases-loop-other l = goal.left-loop-other l
