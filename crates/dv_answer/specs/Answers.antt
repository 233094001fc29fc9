-- What takes an answer's replies, and the session behind them.
use Rattle.std.specs.Prelude.{◌≡◌, List}
use Rattle.dv_model.specs.declared.types.Reply.{Reply}
use Rattle.dv_model.specs.Sessions.{Answer, State}

-- the answer's replies were taken, where `with` says what is there with more, and the session is in
-- its state
abbrev pub IsAnswered : {R : Type 0} → (R → List Reply → R) → R → R → State → Answer → Type 0
IsAnswered with old new state a = (new ≡ with old a.replies) × (state ≡ a.next)
