use Rattle.std.proofs.Common.{subst, sym}
use Rattle.dv_maildrop.specs.Maildrops.{Transaction}
use Rattle.dv_pop3.specs.Clients.{IsListing}
use Rattle.dv_pop3.proofs.Asking.{listing_later}
use Rattle.dv_pop3.proofs.client.Pop.answer_quit.Goals as goal

pub invariant_of-self : goal.invariant_of-self
invariant_of-self g c h =
    let m = c.self.inside.maildrop in
    listing_later m.rows c.self.inside.session.follower.state c.remove.new.s.follower.state (c.self.invariant h) (c.remove.ensures.later h m c.in_ok-set.ensures (c.self.invariant h))

pub invariant_of-self-in_err-quit : goal.invariant_of-self-in_err-quit
invariant_of-self-in_err-quit g c h =
    let m = c.self.inside.maildrop in
    let y = c.remove.new.s.follower.state in
    subst (λ (t : Transaction). IsListing t.rows y) (sym c.in_err-quit.ensures.same)
    (listing_later m.rows c.self.inside.session.follower.state y (c.self.invariant h) (c.remove.ensures.later h m c.in_ok-set.ensures (c.self.invariant h)))

pub invariant_of-self-2 : goal.invariant_of-self-2
invariant_of-self-2 g c h =
    let m = c.self.inside.maildrop in
    let y = c.remove.new.s.follower.state in
    subst (λ (t : Transaction). IsListing t.rows y) (sym c.in_ok-quit.ensures.behind)
    (listing_later m.rows c.self.inside.session.follower.state y (c.self.invariant h) (c.remove.ensures.later h m c.in_ok-set.ensures (c.self.invariant h)))
