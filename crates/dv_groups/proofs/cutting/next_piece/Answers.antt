use Rattle.std.proofs.Common.{◌≤◌, length, arith}
use Rattle.std.proofs.lemmas.Bool.Decides.{nat_tests}
use Rattle.dv_groups.proofs.Parted.{pieces-front}
use Rattle.dv_groups.proofs.cutting.next_piece.Goals as goal

pub returns-clause-some : goal.returns-clause-some
returns-clause-some g c =
    let some : 1 ≤ length c.args.items.now = grind (arith, nat_tests, c.is_empty.ensures, c.if-is_empty.false) in
    pieces-front c.args.items.now c.split_at.result.0.now c.split_at.result.1.now c.min.result some c.min.ensures c.split_at.ensures.front c.split_at.ensures.back
