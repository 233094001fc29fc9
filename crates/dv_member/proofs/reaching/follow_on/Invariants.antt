use Rattle.std.proofs.Common.{◌≡◌}
use Rattle.dv_generations.specs.Feeds.{front_of}
use Rattle.dv_member.specs.Batches.{Gathers}
use Rattle.dv_member.specs.Reaching.{IsLast, Knows}
use Rattle.dv_member.proofs.reaching.follow_on.Given as goal

abbrev pub invariant-loop-before : goal.invariant-loop-before
invariant-loop-before g l = record {
  feed : l.feed ≡ l.fn.feed;
  leaf : Knows g.K.Keeping.roll l.fn.feed l.fn.leaf l.leaf;
  batch : Gathers g.K.Keeping.start l.fn.from (front_of l.fn.feed l.before) l.batch;
  last : IsLast g.K.Keeping.start g.K.Keeping.count l.fn.feed l.fn.first l.before l.leaf l.last;
}
