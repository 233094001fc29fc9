use Rattle.std.proofs.Common.{◌≡◌, ◌∙◌, sym}
use Rattle.std.proofs.lemmas.Result.{IfOk-weaker}
use Rattle.dv_model.specs.Sessions.{candidate}
use Rattle.dv_model.specs.Sets.{largest_uid}
use Rattle.dv_search.specs.Facts.{is_found}
use Rattle.dv_search.proofs.Found.{at_hand, found_by}
use Rattle.dv_search.proofs.Ready.{known_prepared}
use Rattle.dv_search.proofs.sought.Sought.finds.Goals as goal

pub returns : goal.returns
returns c = λ k view is message known.
    let m = c.args.live.now.mailbox in
    let s = c.args.shown.now in
    let made = c.args.self.now.key in
    let names = c.names-2.ensures.is ∙ c.names.ensures in
    IfOk-weaker c.is_found.result (λ found. found ≡ is_found made (at_hand s c.names-2.result.now 0) message) (λ found. found ≡ is_found k (candidate view m s) message)
    (λ found e. e ∙ found_by k made view m is.ready s c.names-2.result.now names message)
    (c.is_found.ensures is.ready.apart (is.reads ∙ sym is.ready.reads) message (known_prepared (largest_uid view) k made is.ready message _ known))
