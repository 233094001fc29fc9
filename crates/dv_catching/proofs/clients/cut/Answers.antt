use Rattle.std.proofs.Common.{◌∙◌, ap, drop}
use Rattle.dv_catching.proofs.Sets.{piece_at, whole_piece}
use Rattle.dv_catching.proofs.clients.cut.Goals as goal

pub returns-in-None-clause-pieces : goal.returns-in-None-clause-pieces
returns-in-None-clause-pieces c = whole_piece c.args.byte c.args.text.now c.in-None.ensures

pub returns-in-Some-clause-pieces : goal.returns-in-Some-clause-pieces
returns-in-Some-clause-pieces c =
    piece_at c.args.byte c.in-Some.at c.args.text.now c.split_at.result.0.now c.split_at-in-Some.result.1.now c.in-Some.ensures
    c.split_at.ensures.front (c.split_at-in-Some.ensures.back ∙ ap (drop 1) c.split_at.ensures.back)
