use Rattle.std.proofs.Common.{◌≡◌, ◌∙◌, List, ap, arith, refl, subst, sym, take}
use Rattle.std.proofs.lemmas.List.{take_all}
use mathlib.Core.List.{IsPrefix}
use Rattle.dv_front.specs.declared.notes.Note.{Note}
use Rattle.dv_front.specs.Ends.{PassView}
use Rattle.dv_generations.specs.Feeds.{journal}
use Rattle.dv_member.specs.Inside.{all_of}
use Rattle.dv_member.specs.Members.{Member, notes_of}
use Rattle.dv_member.proofs.Seen.{seen_begins}
use Rattle.dv_member.proofs.session.Session.spend.Goals as goal

pub returns-clause-begins : goal.returns-clause-begins
returns-clause-begins g c =
    let feed = c.args.feed.now in
    let first = subst (λ (s : Member). IsPrefix (notes_of s) (journal feed)) c.self.view_is
    (seen_begins c.self.inside.reader.pass c.show.new.pass c.self.inside.mirror.seen (journal feed) c.self.invariant.0.within (ap (λ (p : PassView). p.generation) c.show.ensures.pass) c.show.ensures.begins c.show.ensures.shown.seen) in
    let all : all_of c.newest.result ≡ journal feed = c.newest.ensures.shown.newest refl ∙ ap journal c.show.ensures.same in
    let seen : take c.args.entries (all_of c.newest.result) ≡ journal feed = ap (take c.args.entries) all ∙ take_all c.args.entries (journal feed) (omega (arith, c.requires.entries)) in
    subst (λ (l : List Note). IsPrefix (notes_of c.args.self.now) l) (sym seen) first
