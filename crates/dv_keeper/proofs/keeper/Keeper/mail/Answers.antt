use Rattle.dv_keeper.proofs.keeper.Keeper.mail.Goals as goal

pub returns-clause-read : goal.returns-clause-read
returns-clause-read g c =
    let read = c.serve_mail.ensures.read in
    (read.0, read.1, read.2, read.3, read.4)
