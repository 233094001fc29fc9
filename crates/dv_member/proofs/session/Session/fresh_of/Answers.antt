use Rattle.std.proofs.Common.{◌≡◌, ◌∙◌, Bool, List, ap, length, refl, subst, sym}
use Rattle.std.proofs.lemmas.Result.{IfOk-weaker}
use Rattle.dv_model.specs.declared.types.Fresh.{Fresh}
use Rattle.dv_model.specs.Fresh.{AreFresh}
use Rattle.dv_answer.specs.Following.{fresh_of}
use Rattle.dv_answer.proofs.Tracking.{tracked_fresh}
use Rattle.dv_member.specs.Inside.{IsMember}
use Rattle.dv_member.specs.Members.{Member}
use Rattle.dv_member.proofs.Members.{live_valid}
use Rattle.dv_member.proofs.session.Session.fresh_of.Goals as goal

pub returns-clause-fresh : goal.returns-clause-fresh
returns-clause-fresh g c =
    let fresh = ap (λ (s : Member). s.spent) c.self.view_is ∙ c.requires.fresh in
    let selected = ap (λ (s : Member). s.follower.state.selected) c.self.view_is ∙ c.requires.selected in
    let mirror = c.self.inside.mirror in
    let member = subst (λ (b : Bool). IsMember g.K.Keeping.roll g.K.Keeping.start g.K.Keeping.count c.self.inside.reader mirror b) fresh c.self.invariant.0 in
    let tracks = (member.follows refl).mirror.abreast selected in
    let whole = tracked_fresh mirror.live.mailbox mirror.session.state.view mirror.session.touched tracks (live_valid c.self.inside.reader mirror member) in
    let here = subst (λ (s : Member). AreFresh s.follower.state.view s.live.next_uid (length s.live.keywords) (fresh_of mirror.live.mailbox mirror.session.touched)) c.self.view_is whole in
    IfOk-weaker c.fresh.result (λ (l : List Fresh). l ≡ fresh_of mirror.live.mailbox mirror.session.touched)
    (λ (l : List Fresh). AreFresh c.args.self.now.follower.state.view c.args.self.now.live.next_uid (length c.args.self.now.live.keywords) l)
    (λ l is. subst (λ (k : List Fresh). AreFresh c.args.self.now.follower.state.view c.args.self.now.live.next_uid (length c.args.self.now.live.keywords) k) (sym is) here) c.fresh.ensures
