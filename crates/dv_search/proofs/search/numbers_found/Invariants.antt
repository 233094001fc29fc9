use Rattle.std.proofs.Common.{◌≡◌, ℕ, List, Option, take}
use Rattle.dv_model.specs.declared.types.Key.{Key}
use Rattle.dv_model.specs.Sessions.{candidate}
use Rattle.dv_sets.proofs.Chosen.{chosen}
use Rattle.dv_search.specs.Facts.{AreAllKnown, is_found}
use Rattle.dv_search.specs.Sought.{IsSought}
use Rattle.dv_search.proofs.search.numbers_found.Given as goal

abbrev pub invariant-loop-shown : goal.invariant-loop-shown
invariant-loop-shown l = record {
  counted : l.number ≡ l.shown-index;
  chosen : (k : Key) → IsSought k l.v l.sought → (message : ℕ → Option (List ℕ)) → AreAllKnown k message l.mail l.v.rows
      → l.numbers ≡ chosen (λ row. is_found k (candidate l.v l.live.mailbox row.1) (message row.1.uid)) (take l.shown-index l.shown-items);
}
