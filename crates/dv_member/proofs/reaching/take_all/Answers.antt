use Rattle.std.proofs.Common.{subst}
use Rattle.dv_generations.specs.Feeds.{Feed, IsShown}
use Rattle.dv_member.proofs.Arriving.{looked_all}
use Rattle.dv_member.proofs.reaching.take_all.Goals as goal

pub returns-clause-ok : goal.returns-clause-ok
returns-clause-ok g c =
    looked_all c.args.pass.now c.show.new.pass c.take.new.p c.show-2.new.pass
    record {
      shown = c.show.ensures.shown;
      begins = c.show.ensures.begins;
      first_is = c.show.ensures.pass;
      more = c.take.ensures.begins;
      taken_is = c.in_ok-take.ensures.ok;
      again = subst (λ (f : Feed). IsShown g.K.Keeping.start g.K.Keeping.count f c.args.number c.show-2.new.pass) c.show.ensures.same c.show-2.ensures.shown;
      last_begins = c.show-2.ensures.begins;
      last_is = c.show-2.ensures.pass;
    }
    c.args.words.now c.take.new.out c.in_ok-take.ensures.words
