use Rattle.std.proofs.Common.{Err, Ok, inl, refl}
use Rattle.dv_files.specs.declared.fault.TurnEnd.TheVariants as end
use Rattle.dv_files.specs.Leavings.{IsBeforeLast, IsTurning}
use Rattle.dv_files.proofs.Replacing.{last_leaves, leaves_wider, turned_leaves}
use Rattle.dv_files.proofs.Resting.{turned_quiet}
use Rattle.dv_files.proofs.rotation.rotate.Goals as goal

pub returns-in-Err-clause-quiet : goal.returns-in-Err-clause-quiet
returns-in-Err-clause-quiet g c = λ tells rests closes.
    let S = g.S.Shelf in
    let turn = c.args.turn.now in
    let old = c.args.shelf.now in
    let new = c.put_both.new.shelf in
    turned_quiet S.sees c.args.chain.now turn c.requires.turn c.requires.room (Err end.Before) c.args.chain.now old new refl rests (g.met.S.Shelf.leaves_files old tells) closes
    (leaves_wider S.sees old new (IsBeforeLast turn) (IsBeforeLast turn) (IsTurning turn) (c.in-Err.ensures.leaves tells) (λ d f before. inl before))

pub returns-in-Err-put-clause-quiet : goal.returns-in-Err-put-clause-quiet
returns-in-Err-put-clause-quiet g c = λ tells rests closes.
    let S = g.S.Shelf in
    let turn = c.args.turn.now in
    let old = c.args.shelf.now in
    turned_quiet S.sees c.args.chain.now turn c.requires.turn c.requires.room (Err end.Last) c.args.chain.now old c.put.new.shelf refl rests (g.met.S.Shelf.leaves_files old tells) closes
    (last_leaves S.sees turn old c.put_both.new.shelf c.put.new.shelf (c.in-Ok.ensures.leaves tells) (c.in-Err-put.ensures.leaves tells))

pub returns-clause-quiet : goal.returns-clause-quiet
returns-clause-quiet g c = λ tells rests closes.
    let S = g.S.Shelf in
    let turn = c.args.turn.now in
    let old = c.args.shelf.now in
    turned_quiet S.sees c.args.chain.now turn c.requires.turn c.requires.room (Ok tt) c.advance.new.chain old c.put.new.shelf c.advance.ensures rests (g.met.S.Shelf.leaves_files old tells) closes
    (turned_leaves S.sees turn old c.put_both.new.shelf c.put.new.shelf (c.in-Ok.ensures.leaves tells) (c.in-Ok-put.ensures.leaves tells))
