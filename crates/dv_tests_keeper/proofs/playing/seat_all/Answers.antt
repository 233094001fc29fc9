use Rattle.std.proofs.Common.{◌≡◌, ◌∙◌, Option, Some, false, subst}
use Rattle.std.specs.Prelude.{IfSome}
use Rattle.std.proofs.lemmas.List.Elements.{All-pop}
use Rattle.dv_member.specs.Members.{Member}
use Rattle.dv_keeper.proofs.Fresh.{new_are_fresh}
use Rattle.dv_tests_keeper.proofs.playing.seat_all.Goals as goal

abbrev is_fresh : Member → Type 0
is_fresh s = s.spent ≡ false

pub loop-session-init : goal.loop-session-init
loop-session-init g c = new_are_fresh g.K.Keeping.start 1 c.args.standing.now.items c.requires

pub invariant_of-push : goal.invariant_of-push
invariant_of-push g c = record {
  fresh = λ s is. subst (λ (o : Option Member). IfSome o is_fresh) (c.in-Some.is ∙ is)
      (All-pop is_fresh c.loop-session.standing.items c.pop.new.self.items c.pop.result c.pop.ensures.items c.loop-session.invariant).1;
}

pub loop-session-preserved : goal.loop-session-preserved
loop-session-preserved g c =
    (All-pop is_fresh c.loop-session.standing.items c.pop.new.self.items c.pop.result c.pop.ensures.items c.loop-session.invariant).0
