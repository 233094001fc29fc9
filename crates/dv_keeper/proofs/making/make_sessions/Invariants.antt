use Rattle.std.proofs.Common.{◌≡◌, ◌+◌, length}
use Rattle.dv_keeper.specs.Sessions.{AreNewSessions}
use Rattle.dv_keeper.proofs.making.make_sessions.Given as goal

abbrev pub invariant-loop-before : goal.invariant-loop-before
invariant-loop-before g l =
    (l.shared ≡ l.initial.shared) × (l.writes.amount ≡ 0) × (l.refusals.amount ≡ 0) × (l.writes.parts + l.before ≡ l.initial.writes.parts) × (l.refusals.parts + l.before ≡ l.initial.refusals.parts)
    × (length l.sessions.items ≡ l.before) × AreNewSessions g.K.Keeping.start 1 l.sessions.items
