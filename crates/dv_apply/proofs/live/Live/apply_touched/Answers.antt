use Rattle.std.proofs.Common.{◌↔◌, ◌⊎◌, ℕ, subst}
use Rattle.std.specs.Prelude.{Contains, OnOk}
use Rattle.dv_model.specs.Fresh.{IsTouched}
use Rattle.dv_apply.specs.States.{Held, mailbox_of}
use Rattle.dv_apply.proofs.live.Live.apply_touched.Goals as goal

pub returns-clause-touched : goal.returns-clause-touched
returns-clause-touched c =
    subst
    (λ (l : Held). OnOk c.apply_touched.result ((uid : ℕ) → Contains c.apply_touched.new.touched uid ↔ (Contains c.args.touched.now uid ⊎ IsTouched l.mailbox (mailbox_of c.apply_touched.new.state) uid)))
    c.self.view_is c.apply_touched.ensures.touched
