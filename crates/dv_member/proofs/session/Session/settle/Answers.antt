use Rattle.std.proofs.Common.{ap, subst}
use mathlib.Core.List.{IsPrefix}
use Rattle.dv_front.specs.Ends.{PassView}
use Rattle.dv_generations.specs.Feeds.{journal}
use Rattle.dv_member.specs.Members.{Member, notes_of}
use Rattle.dv_member.proofs.Seen.{seen_begins}
use Rattle.dv_member.proofs.session.Session.settle.Goals as goal

pub returns-clause-begins : goal.returns-clause-begins
returns-clause-begins g c =
    let feed = c.args.feed.now in
    subst (λ (s : Member). IsPrefix (notes_of s) (journal feed)) c.self.view_is
    (seen_begins c.self.inside.reader.pass c.show.new.pass c.self.inside.mirror.seen (journal feed) c.self.invariant.0.within (ap (λ (p : PassView). p.generation) c.show.ensures.pass) c.show.ensures.begins c.show.ensures.shown.seen)
