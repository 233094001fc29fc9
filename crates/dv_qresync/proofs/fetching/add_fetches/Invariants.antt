use Rattle.std.proofs.Common.{◌≡◌, ◌+◌, ◌++◌, drop}
use Rattle.dv_qresync.specs.Answers.{fetches}
use Rattle.dv_qresync.proofs.Telling.{told_from}
use Rattle.dv_qresync.proofs.fetching.add_fetches.Given as goal

abbrev pub invariant-loop-place : goal.invariant-loop-place
invariant-loop-place l =
    l.answers ++ told_from l.live.mailbox l.since (l.place + 1) (drop l.place l.live.mailbox.rows) ≡ l.initial.answers ++ fetches l.live.mailbox l.since
