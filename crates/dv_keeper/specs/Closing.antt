-- What is known when all is handed in.
use Rattle.std.specs.Prelude.{◌≡◌, ℕ, List, All, length}
use Rattle.std.specs.List.{sum_by}
use mathlib.Core.List.{IsPrefix}
use Rattle.dv_model.specs.Counts.{RoseBy}
use Rattle.dv_shelf.specs.Sees.{SeesFolder}
use Rattle.dv_member.specs.Members.{Member, notes_of}
use Rattle.dv_shared.specs.Kept.{Kept, notes_in}

-- What each session has seen begins all notes. Where as many were handed in as there are, they
-- wrote all entries, and the disk has failed no fewer calls than it answered commands of them.
pub record Settles {S C : Type 0} (sees : SeesFolder S) (count writers readers : ℕ)
    (sessions : List Member) (k : Kept S C) : Type 0 where
  pub begins : All (λ (s : Member). IsPrefix (notes_of s) (notes_in k)) sessions
  pub wrote : length sessions ≡ writers
      → sum_by (λ (s : Member). s.wrote) sessions ≡ length (notes_in k)
  pub refused : length sessions ≡ readers
      → RoseBy (sum_by (λ (s : Member). s.refused) sessions) count
      (sees.fault_count k.store.shelf)
  pub tries : RoseBy (length k.tries) count (sees.fault_count k.store.shelf)
