-- What comes of a plan that was carried out.
use Rattle.std.specs.Prelude.{◌≡◌, ◌-◌, ℕ, length, take, Option, Result, Ok, Err}
use Rattle.dv_model.specs.declared.types.Mark.{Mark}
use Rattle.dv_writing.specs.declared.committing.Committed.{Committed}
use Rattle.dv_plans.specs.declared.fault.StoreFault.{StoreFault}
use Rattle.dv_plans.specs.declared.plan.Plan.{Plan}
use Rattle.dv_store.specs.declared.receipt.Receipt.{Receipt}

-- the receipt has the group of a plan, its text without the four zero bytes, that UID, and when the
-- message came
pub record HasPlan (plan : Plan) (appended : Option ℕ) (receipt : Receipt) : Type 0 where
  pub group : receipt.group ≡ plan.group
  pub text : receipt.text ≡ take (length plan.text - 4) plan.text
  pub uid : receipt.uid ≡ appended
  pub received : receipt.received ≡ plan.received

-- the mark goes on to the receipt's; an error keeps it
abbrev pub MovesMark : Mark → Mark → Result Receipt StoreFault → Type 0
MovesMark old new (Ok receipt) = new ≡ receipt.mark
MovesMark old new (Err e) = new ≡ old

-- what was carried out
abbrev pub carried : Result Receipt StoreFault → Result Committed StoreFault
carried (Ok receipt) = Ok (record { mark = receipt.mark; touched = receipt.touched })
carried (Err e) = Err e
