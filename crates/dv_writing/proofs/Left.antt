-- What is left behind a write that failed, taken apart.
use Rattle.std.proofs.Common.{◌≡◌, ◌⊎◌, inl, inr, ⊎_elim, List, ℕ, Option, Some, None}
use Rattle.std.specs.Prelude.{IsSome}
use Rattle.dv_chain.specs.declared.chain.Chain.{Chain}
use Rattle.dv_files.specs.declared.texts.Turn.{Turn}
use Rattle.dv_files.specs.Texts.{place_of}
use Rattle.dv_writing.specs.Debts.{Debt, Last, debt_of}
use Rattle.dv_writing.specs.Ways.{IsDue, StopsOnWay, ready}
use Rattle.dv_writing.proofs.Ready.{stopped_place}

-- a turn's debt is its last replace
pub last_of : (turn : Option Turn) (now : Debt) → IsSome turn → now ≡ debt_of turn → (file : List ℕ) × (now ≡ Last file)
last_of None now some is = absurd cc
last_of (Some turn) now some is = (turn.new, is)

module _ (owed left : Option Turn) (chain next : Chain) where
  -- the chain is at its place, or where the group begins
  pub left_place : (turn : Option Turn) → IsDue owed chain turn → StopsOnWay owed left turn chain next ⊎ ((place_of next ≡ place_of (ready owed turn chain)) × (left ≡ None)) → (place_of next ≡ place_of chain) ⊎ (place_of next ≡ place_of (ready owed turn chain))
  left_place turn due = ⊎_elim (λ stops. inl (stopped_place owed left turn chain next due stops)) (λ begins. inr begins.0)
