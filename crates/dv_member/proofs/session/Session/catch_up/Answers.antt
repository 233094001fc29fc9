use Rattle.std.proofs.Common.{◌≡◌, ◌∙◌, List, Result, Ok, Err, OnErr, true, false, ap, length, subst, sym, take}
use mathlib.Core.List.{IsPrefix}
use Rattle.dv_front.specs.declared.notes.Note.{Note}
use Rattle.dv_front.proofs.Prefixes.{prefix_trans}
use Rattle.dv_generations.specs.Feeds.{journal}
use Rattle.dv_member.specs.declared.mirror.Mirror.{Mirror}
use Rattle.dv_member.specs.Calls.{HasCaughtUp, IsAsBefore}
use Rattle.dv_member.specs.Inside.{IsMember, all_of}
use Rattle.dv_member.specs.Members.{Member, notes_of}
use Rattle.dv_member.proofs.Calls.{before_begins, before_on, caught_now, end_begins, end_member, end_mirror, end_notes, end_sees, member_of}
use Rattle.dv_member.proofs.session.Session.catch_up.Goals as goal

on_err : {A E P : Type 0} (r : Result A E) → P → OnErr r P
on_err (Ok x) p = tt
on_err (Err e) p = p

pub returns-in_err-reached-clause-begins : goal.returns-in_err-reached-clause-begins
returns-in_err-reached-clause-begins g c =
    let s = c.self.inside in
    let r = c.reach.new.r in
    let m = c.reach.new.m in
    let e = c.reach.ensures in
    subst (λ (x : Member). IsPrefix (notes_of x) (take m.seen (all_of r.pass))) c.self.view_is
    (before_begins s.number s.caught_up s.knows_seal s.spent s.turns s.holds s.writes.amount s.refusals.amount s.reader r s.mirror m c.self.invariant.0.within e.pass.1 e.leaf.begins e.mirror e.mailbox)

pub returns-in_err-reached-clause-err : goal.returns-in_err-reached-clause-err
returns-in_err-reached-clause-err g c =
    let s = c.self.inside in
    let r = c.reach.new.r in
    let m = c.reach.new.m in
    let e = c.reach.ensures in
    on_err c.from_residual.result
    (subst (λ (x : Member). IsAsBefore x (member_of s.number r m s.caught_up s.knows_seal s.spent s.turns s.holds s.writes.amount s.refusals.amount)) c.self.view_is
    (before_on s.number s.caught_up s.knows_seal s.spent s.turns s.holds s.writes.amount s.refusals.amount s.reader r s.mirror m c.self.invariant.0.within e.pass.1 e.leaf.begins e.mirror e.mailbox))

pub invariant_of-self-2 : goal.invariant_of-self-2
invariant_of-self-2 g c =
    let s = c.self.inside in
    let fresh = ap (λ (x : Member). x.spent) c.self.view_is ∙ c.requires.fresh in
    let at = IsMember g.K.Keeping.roll g.K.Keeping.start g.K.Keeping.count in
    let reaches = c.in_ok-reached.ensures.reached in
    let mirror = end_mirror c.args.feed.now c.reach.new.r c.reach.new.m c.in_ok-reached.reached c.reach.ensures.member reaches c.arrive.new.r c.show.new.m c.arrive.ensures
    (c.show.ensures.live reaches.ends.after reaches.ends.leads.makes) c.show.ensures.rest in (
      subst (at c.arrive.new.r c.show.new.m) (sym fresh)
          (end_member c.args.feed.now c.reach.new.r c.reach.new.m c.in_ok-reached.reached c.reach.ensures.member reaches c.arrive.new.r c.show.new.m c.arrive.ensures mirror),
      c.self.invariant.1,
      c.self.invariant.2,
    )

pub returns-clause-begins : goal.returns-clause-begins
returns-clause-begins g c =
    let s = c.self.inside in
    let r = c.reach.new.r in
    let m = c.reach.new.m in
    let e = c.reach.ensures in
    let feed = c.args.feed.now in
    let reaches = c.in_ok-reached.ensures.reached in
    let first = before_begins s.number s.caught_up s.knows_seal s.spent s.turns s.holds s.writes.amount s.refusals.amount s.reader r s.mirror m c.self.invariant.0.within e.pass.1 e.leaf.begins e.mirror e.mailbox in
    let seen : c.show.new.m.seen ≡ length (journal feed) = ap (λ (x : Mirror). x.seen) c.show.ensures.rest ∙ reaches.ends.seen in
    let whole = end_notes feed r m c.in_ok-reached.reached e.member reaches c.arrive.new.r c.show.new.m c.arrive.ensures seen in
    let begins = prefix_trans (take s.mirror.seen (all_of s.reader.pass)) (take m.seen (all_of r.pass)) (journal feed) first
    (end_begins feed r m c.in_ok-reached.reached e.member reaches c.arrive.new.r c.show.new.m c.arrive.ensures) in
    subst (λ (x : Member). IsPrefix (notes_of x) (take c.show.new.m.seen (all_of c.arrive.new.r.pass))) c.self.view_is
    (subst (λ (l : List Note). IsPrefix (take s.mirror.seen (all_of s.reader.pass)) l) (sym whole) begins)

pub returns-clause-ok : goal.returns-clause-ok
returns-clause-ok g c =
    let s = c.self.inside in
    let r = c.reach.new.r in
    let m = c.reach.new.m in
    let e = c.reach.ensures in
    let feed = c.args.feed.now in
    let reaches = c.in_ok-reached.ensures.reached in
    let seen : c.show.new.m.seen ≡ length (journal feed) = ap (λ (x : Mirror). x.seen) c.show.ensures.rest ∙ reaches.ends.seen in
    let state = ap (λ (x : Mirror). x.session.state) c.show.ensures.rest ∙ ap (λ (x : Mirror). x.session.state) e.mirror in
    subst (λ (x : Member). HasCaughtUp feed x (member_of s.number c.arrive.new.r c.show.new.m true false s.spent s.turns s.holds s.writes.amount s.refusals.amount)) c.self.view_is
    record {
      all = end_sees feed r m c.in_ok-reached.reached e.member reaches c.arrive.new.r c.show.new.m c.arrive.ensures
          (member_of s.number s.reader s.mirror s.caught_up s.knows_seal s.spent s.turns s.holds s.writes.amount s.refusals.amount) true false s.spent s.turns s.holds s.writes.amount s.refusals.amount
          e.leaf.begins e.leaf.all seen;
      now = caught_now s.number s.caught_up s.knows_seal s.spent s.turns s.holds s.writes.amount s.refusals.amount s.reader c.arrive.new.r s.mirror c.show.new.m state;
    }
