use Rattle.std.proofs.Common.{◌≡◌, ℕ, List, ◌∙◌, ap, subst}
use Rattle.std.proofs.lemmas.Result.{IfOk-weaker}
use Rattle.dv_model.specs.Journals.{new_guid}
use Rattle.dv_dbox.specs.BoxTexts.{written}
use Rattle.dv_files.specs.Writing.{IsFileOf}
use Rattle.dv_plans.specs.Files.{guid_for, new_file}
use Rattle.dv_plans.proofs.before.message_file.Goals as goal

pub returns-clause-text : goal.returns-clause-text
returns-clause-text c =
    let chain = c.args.chain.now in
    let received = c.args.received in
    let guid : c.message_guid-guid.result ≡ guid_for chain received =
    c.message_guid-guid.ensures ∙ ap (λ (v : ℕ). new_guid chain.indexid v c.next_uid.result received) c.uid_validity.ensures
    ∙ ap (λ (u : ℕ). new_guid chain.indexid chain.live.mailbox.uid_validity u received) c.next_uid.ensures.is in
    IfOk-weaker c.mail_text.result (λ (text : List ℕ). text ≡ written received c.message_guid-guid.result received c.as_slice.result.now) (λ (text : List ℕ). text ≡ new_file chain received c.args.message.now)
    (λ text is. is ∙ ap (λ (g : List ℕ). written received g received c.as_slice.result.now) guid ∙ ap (λ (b : List ℕ). written received (guid_for chain received) received b) c.as_slice.ensures) c.mail_text.ensures.text

pub returns-clause-file : goal.returns-clause-file
returns-clause-file c =
    let chain = c.args.chain.now in
    let received = c.args.received in
    let guid : c.message_guid-guid.result ≡ guid_for chain received =
    c.message_guid-guid.ensures ∙ ap (λ (v : ℕ). new_guid chain.indexid v c.next_uid.result received) c.uid_validity.ensures
    ∙ ap (λ (u : ℕ). new_guid chain.indexid chain.live.mailbox.uid_validity u received) c.next_uid.ensures.is in
    IfOk-weaker c.mail_text.result (IsFileOf c.as_slice.result.now c.message_guid-guid.result) (IsFileOf c.args.message.now (guid_for chain received))
    (λ text file. subst (λ (b : List ℕ). IsFileOf b (guid_for chain received) text) c.as_slice.ensures (subst (λ (g : List ℕ). IsFileOf c.as_slice.result.now g text) guid file)) c.mail_text.ensures.is
