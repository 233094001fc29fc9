use Rattle.dv_files.proofs.Resting.{put_quiet}
use Rattle.dv_files.proofs.checkpoints.checkpoint.Goals as goal

pub returns-clause-quiet : goal.returns-clause-quiet
returns-clause-quiet g c = λ tells rests.
    let S = g.S.Shelf in
    put_quiet S.sees c.args.chain.now c.args.text.now c.put.result c.args.shelf.now c.put.new.shelf c.requires.text rests (c.put.ensures.leaves tells)
