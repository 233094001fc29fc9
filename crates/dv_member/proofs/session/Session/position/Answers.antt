use Rattle.std.proofs.Common.{◌≡◌, ◌∙◌, Bool, ap, subst}
use Rattle.dv_model.specs.Journals.{mark_of}
use Rattle.dv_member.specs.Inside.{IsMember}
use Rattle.dv_member.specs.Members.{Member, log_seen}
use Rattle.dv_member.proofs.Members.{told_mark_at}
use Rattle.dv_member.proofs.session.Session.position.Goals as goal

pub returns : goal.returns
returns g c =
    let fresh = ap (λ (s : Member). s.spent) c.self.view_is ∙ c.requires.fresh in
    let member = subst (λ (b : Bool). IsMember g.K.Keeping.roll g.K.Keeping.start g.K.Keeping.count c.self.inside.reader c.self.inside.mirror b) fresh c.self.invariant.0 in
    subst (λ (s : Member). c.self.inside.mirror.told_mark ≡ mark_of (log_seen g.K.Keeping.start s) s.follower.state.told) c.self.view_is (told_mark_at c.self.inside.reader c.self.inside.mirror member)
