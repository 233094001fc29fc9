use Rattle.std.proofs.Common.{◌≡◌, ◌∙◌, ℕ, ap, subst, sym, take}
use mathlib.Core.List.{IsPrefix}
use Rattle.dv_front.specs.Ends.{PassView}
use Rattle.dv_member.specs.declared.mirror.Mirror.{Mirror}
use Rattle.dv_member.specs.declared.reader.Reader.{Reader}
use Rattle.dv_member.specs.Inside.{IsMember, all_of}
use Rattle.dv_member.specs.Members.{Member, notes_of}
use Rattle.dv_member.specs.Reaching.{Grows}
use Rattle.dv_member.proofs.Arriving.{load_failed, load_grows, load_member}
use Rattle.dv_member.proofs.Seen.{seen_stays, seen_to_end}
use Rattle.dv_member.proofs.session.Session.refresh.Goals as goal

pub invariant_of-self : goal.invariant_of-self
invariant_of-self g c =
    let s = c.self.inside in
    let fresh = ap (λ (x : Member). x.spent) c.self.view_is ∙ c.requires.fresh in
    let at = IsMember g.K.Keeping.roll g.K.Keeping.start g.K.Keeping.count in
    let member = subst (at s.reader s.mirror) fresh c.self.invariant.0 in
    let is = c.in_err-taken.ensures.err in
    let grows : Grows s.reader.pass c.take.new.p = load_grows s.reader.pass c.take.new.p c.take.ensures.begins c.take.ensures.good (ap (λ (p : PassView). p.table) is) (ap (λ (p : PassView). p.generation) is) in (
      subst (at (record s.reader { pass = c.take.new.p; words = c.take.new.out }) s.mirror) (sym fresh)
          (load_failed s.reader s.mirror c.take.new.p c.take.new.out member grows c.in_err-taken.ensures.kept (ap (λ (p : PassView). p.taken) is)),
      c.self.invariant.1,
      c.self.invariant.2,
    )

pub returns-in_err-taken-clause-begins : goal.returns-in_err-taken-clause-begins
returns-in_err-taken-clause-begins g c =
    let s = c.self.inside in
    let is = c.in_err-taken.ensures.err in
    subst (λ (x : Member). IsPrefix (notes_of x) (take s.mirror.seen (all_of c.take.new.p))) c.self.view_is
    (seen_stays s.reader.pass c.take.new.p s.mirror.seen c.self.invariant.0.within (ap (λ (p : PassView). p.generation) is) c.take.ensures.begins)

pub see_words-requires-clause-member : goal.see_words-requires-clause-member
see_words-requires-clause-member g c =
    let s = c.self.inside in
    let fresh = ap (λ (x : Member). x.spent) c.self.view_is ∙ c.requires.fresh in
    let at = IsMember g.K.Keeping.roll g.K.Keeping.start g.K.Keeping.count in
    let member = subst (at s.reader s.mirror) fresh c.self.invariant.0 in
    let is = c.in_ok-taken.ensures.ok in
    let grows : Grows s.reader.pass c.take.new.p = load_grows s.reader.pass c.take.new.p c.take.ensures.begins c.take.ensures.good (ap (λ (p : PassView). p.table) is) (ap (λ (p : PassView). p.generation) is) in
    load_member s.reader s.mirror c.take.new.p c.take.new.out member grows (ap (λ (p : PassView). p.taken) is) c.in_ok-taken.ensures.words

pub returns-in_err-see_words-clause-begins : goal.returns-in_err-see_words-clause-begins
returns-in_err-see_words-clause-begins g c =
    let s = c.self.inside in
    let is = c.in_ok-taken.ensures.ok in
    let seen : c.see_words.new.m.seen ≡ s.mirror.seen = ap (λ (x : Mirror). x.seen) c.in_err-see_words.ensures.err.0 in
    let pass : c.see_words.new.r.pass ≡ c.take.new.p = ap (λ (x : Reader). x.pass) c.see_words.ensures.reader in
    subst (λ (x : Member). IsPrefix (notes_of x) (take c.see_words.new.m.seen (all_of c.see_words.new.r.pass))) c.self.view_is
    (subst (λ (p : PassView). IsPrefix (take s.mirror.seen (all_of s.reader.pass)) (take c.see_words.new.m.seen (all_of p))) (sym pass)
    (subst (λ (n : ℕ). IsPrefix (take s.mirror.seen (all_of s.reader.pass)) (take n (all_of c.take.new.p))) (sym seen)
    (seen_stays s.reader.pass c.take.new.p s.mirror.seen c.self.invariant.0.within (ap (λ (p : PassView). p.generation) is) c.take.ensures.begins)))

pub returns-clause-begins : goal.returns-clause-begins
returns-clause-begins g c =
    let s = c.self.inside in
    let is = c.in_ok-taken.ensures.ok in
    let pass : c.see_words.new.r.pass ≡ c.take.new.p = ap (λ (x : Reader). x.pass) c.see_words.ensures.reader in
    subst (λ (x : Member). IsPrefix (notes_of x) (take c.see_words.new.m.seen (all_of c.see_words.new.r.pass))) c.self.view_is
    (subst (λ (p : PassView). IsPrefix (take s.mirror.seen (all_of s.reader.pass)) (take c.see_words.new.m.seen (all_of p))) (sym pass)
    (seen_to_end s.reader.pass c.take.new.p s.mirror.seen c.see_words.new.m.seen c.self.invariant.0.within (ap (λ (p : PassView). p.generation) is) c.take.ensures.begins c.in_ok-see_words.ensures.seen))
