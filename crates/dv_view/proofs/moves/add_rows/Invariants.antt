use Rattle.std.proofs.Common.{◌≡◌, ◌++◌, take, map}
use Rattle.dv_model.specs.Views.{shown}
use Rattle.dv_model.proofs.Clients.{from_uid}
use Rattle.dv_view.proofs.moves.add_rows.Given as goal

abbrev pub invariant-loop-k : goal.invariant-loop-k
invariant-loop-k l = l.rows ≡ l.initial.rows ++ map shown (from_uid l.from (take l.k l.live.mailbox.rows))
