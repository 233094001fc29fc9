use Rattle.std.proofs.Common.{map}
use Rattle.dv_model.specs.Sessions.{message_in}
use Rattle.dv_interleavings.specs.Worlds.{mail_of}
use Rattle.dv_responses.specs.Supplied.{DescribesAsked}
use Rattle.dv_world.specs.Shapes.{stored_of}
use Rattle.dv_world.proofs.Supplying.{AreFirst}
use Rattle.dv_world.proofs.facts.facts_for.Given as goal

abbrev pub invariant-loop-uid : goal.invariant-loop-uid
invariant-loop-uid l = AreFirst (DescribesAsked l.c) (message_in (mail_of (map stored_of l.stored)) l.live.mailbox) l.uid-items l.uid-index l.mail
