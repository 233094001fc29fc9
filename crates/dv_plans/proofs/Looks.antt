-- Where nothing was called nothing is changed.
use Rattle.std.proofs.Common.{ℕ, refl}
use Rattle.dv_shelf.specs.Folders.{Folder}
use Rattle.dv_shelf.proofs.Moments.{started}
use Rattle.dv_chain.specs.Openings.{OnlyLooks}
use Rattle.dv_shelf.specs.Sees.{SeesFolder}

module _ {S : Type 0} (sees : SeesFolder S) where
  pub looked_none : (old : S) → ((c : Folder) → sees.left_since old (sees.moment old) c → sees.may_leave old c) → OnlyLooks sees old old
  looked_none old only = record { same = refl; crash = λ c left. left; since = started sees old (sees.may_leave old) only }
