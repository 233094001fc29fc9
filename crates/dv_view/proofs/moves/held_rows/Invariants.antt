use Rattle.std.proofs.Common.{◌≡◌, take, map}
use Rattle.dv_model.proofs.Clients.{held_row}
use Rattle.dv_view.proofs.moves.held_rows.Given as goal

abbrev pub invariant-loop-s : goal.invariant-loop-s
invariant-loop-s l = l.made ≡ map (held_row l.live.mailbox) (take l.s-index l.rows)
