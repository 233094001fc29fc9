-- What took replies.
use Rattle.std.specs.Prelude.{◌≡◌, List}
use Rattle.dv_model.specs.declared.types.Reply.{Reply}

-- it has the old replies, and perhaps more behind them
pub record HasTaken {R : Type 0} (with : R → List Reply → R) (old new : R) : Type 0 where
  pub told : List Reply
  pub is : new ≡ with old told
