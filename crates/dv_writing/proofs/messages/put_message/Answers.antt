use Rattle.dv_shelf.specs.declared.shelf.Name.TheVariants as name
use Rattle.std.proofs.Common.{ℕ, subst}
use Rattle.dv_files.specs.Leavings.{IsPut, Leaves, Puts}
use Rattle.dv_files.proofs.Replacing.{puts_either}
use Rattle.dv_writing.proofs.Beside.{next_put}
use Rattle.dv_writing.proofs.Quiet.{quiet_steps}
use Rattle.dv_writing.proofs.messages.put_message.Goals as goal

pub returns-clause-quiet : goal.returns-clause-quiet
returns-clause-quiet g c = λ tells log stands.
    let S = g.S.Shelf in
    let old = c.args.shelf.now in
    let new = c.put.new.shelf in
    let chain = c.args.chain.now in
    let text = c.args.text.now in
    let n = name.Mail chain.live.mailbox.next_uid in
    quiet_steps S.sees log chain old new (Puts n text c.put.result) (IsPut n text)
    (λ d f puts has. next_put log chain d f has c.next_uid.ensures.valid text (puts_either n text c.put.result d f puts))
    (λ d f put has. next_put log chain d f has c.next_uid.ensures.valid text put)
    (subst (λ (u : ℕ). Leaves S.sees (Puts (name.Mail u) text c.put.result) (IsPut (name.Mail u) text) old new) c.next_uid.ensures.is (c.put.ensures.leaves tells)) stands
