use Rattle.std.proofs.Common.{◌≡◌, ◌↔◌, ℕ, List, subst}
use Rattle.std.specs.Prelude.{Contains}
use Rattle.dv_model.specs.Fresh.{IsTouched}
use Rattle.dv_apply.specs.Preparing.{touched_of}
use Rattle.dv_apply.proofs.Replacing.{made_touched}
use Rattle.dv_apply.proofs.live.Prepared.touched.Goals as goal

pub returns : goal.returns
returns c = λ live after makes uid.
    let same : touched_of c.args.self.now ≡ c.touched.result.now = cc in
    subst (λ (uids : List ℕ). Contains uids uid ↔ IsTouched live.mailbox after uid) same (made_touched live c.args.self.now after uid makes)
