use Rattle.std.proofs.Common.{◌≡◌, ◌∙◌, Bool, ap, refl, subst, sym, take}
use mathlib.Core.List.{IsPrefix}
use Rattle.dv_front.specs.Ends.{PassView}
use Rattle.dv_generations.specs.Feeds.{journal}
use Rattle.dv_member.specs.Calls.{IsAsBefore}
use Rattle.dv_member.specs.Inside.{IsMember, all_of}
use Rattle.dv_member.specs.Members.{Member, notes_of}
use Rattle.dv_member.proofs.Arriving.{load_grows, own_failed}
use Rattle.dv_member.proofs.Calls.{before_on, member_of}
use Rattle.dv_member.proofs.Seen.{seen_begins, seen_grown}
use Rattle.dv_member.proofs.session.Session.face.Goals as goal

pub invariant_of-self : goal.invariant_of-self
invariant_of-self g c =
    let s = c.self.inside in
    let e = c.show.ensures in
    let p = c.show.new.pass in
    let at = IsMember g.K.Keeping.roll g.K.Keeping.start g.K.Keeping.count in
    let fresh = ap (λ (x : Member). x.spent) c.self.view_is ∙ c.requires in
    let grows = load_grows s.reader.pass p e.begins e.shown.good (ap (λ (x : PassView). x.table) e.pass) (ap (λ (x : PassView). x.generation) e.pass) in
    let member = subst (λ (b : Bool). at s.reader s.mirror b) fresh c.self.invariant.0 in (
      subst (λ (b : Bool). at (record s.reader { pass = p; leaf = c.show.new.leaf }) s.mirror b) (sym fresh)
          (own_failed {f = c.args.feed.now} s.reader s.mirror p c.show.new.leaf s.reader.words member grows (record { roll_is = e.leaf.1; begins = e.leaf.0; all = e.all }) e.table refl (ap (λ (x : PassView). x.taken) e.pass)),
      c.self.invariant.1,
      c.self.invariant.2,
    )

pub returns-clause-begins : goal.returns-clause-begins
returns-clause-begins g c =
    let s = c.self.inside in
    let e = c.show.ensures in
    let p = c.show.new.pass in
    subst (λ l. IsPrefix l (journal c.args.feed.now)) (sym (seen_grown s.reader.pass p s.mirror.seen c.self.invariant.0.within (ap (λ (x : PassView). x.generation) e.pass) e.begins))
    (seen_begins s.reader.pass p s.mirror.seen (journal c.args.feed.now) c.self.invariant.0.within (ap (λ (x : PassView). x.generation) e.pass) e.begins e.shown.seen)

pub returns-clause-same : goal.returns-clause-same
returns-clause-same g c =
    let s = c.self.inside in
    let e = c.show.ensures in
    let p = c.show.new.pass in
    let grows = load_grows s.reader.pass p e.begins e.shown.good (ap (λ (x : PassView). x.table) e.pass) (ap (λ (x : PassView). x.generation) e.pass) in
    subst (λ (x : Member). IsAsBefore x (member_of s.number (record s.reader { pass = p; leaf = c.show.new.leaf }) s.mirror s.caught_up s.knows_seal s.spent s.turns s.holds s.writes.amount s.refusals.amount)) c.self.view_is
    (before_on s.number s.caught_up s.knows_seal s.spent s.turns s.holds s.writes.amount s.refusals.amount s.reader (record s.reader { pass = p; leaf = c.show.new.leaf }) s.mirror s.mirror c.self.invariant.0.within grows e.leaf.0 refl refl)
