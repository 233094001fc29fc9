use Rattle.std.proofs.Common.{◌≡◌, ◌∙◌, ◌&&◌, ℕ, List, ap, sym}
use Rattle.std.specs.Prelude.{filter, is_none}
use Rattle.std.proofs.lemmas.Result.{IfOk-weaker}
use Rattle.dv_model.specs.Sessions.{has_uid}
use Rattle.dv_search.specs.Facts.{facts_of}
use Rattle.dv_responses.specs.Damaged.{damaged_uids}
use Rattle.dv_responses.proofs.Closing.{unknown_are_damaged}
use Rattle.dv_responses.proofs.damaged.damaged_among.Goals as goal

pub returns : goal.returns
returns c = λ mail view looked supplied.
    let m = c.args.live.now.mailbox in
    let facts = c.args.facts.now in
    let command = c.args.c.now in
    let unknown : List ℕ → List ℕ = filter (λ uid. has_uid m uid && is_none (facts_of facts uid)) in
    IfOk-weaker c.unknown_of.result (λ uids. uids ≡ unknown c.args.looked_at.now) (λ uids. uids ≡ damaged_uids mail command view m)
    (λ uids is. is ∙ ap unknown looked ∙ unknown_are_damaged mail command view m facts supplied (sym c.reads_mail.ensures ∙ c.if-not-reads_mail.false)) c.unknown_of.ensures
