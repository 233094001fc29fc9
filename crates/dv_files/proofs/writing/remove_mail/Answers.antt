use Rattle.dv_shelf.specs.declared.shelf.Name.TheVariants as name
use Rattle.dv_files.proofs.Removing.{removed}
use Rattle.dv_files.proofs.writing.remove_mail.Goals as goal

pub returns-clause-leaves : goal.returns-clause-leaves
returns-clause-leaves g c = λ tells.
    let S = g.S.Shelf in
    let old = c.args.shelf.now in
    removed S.sees old c.remove.new.self (name.Mail c.args.uid) c.remove.result (λ f left. g.met.S.Shelf.only_now old f tells left)
    (c.remove.ensures.ok tells) (c.remove.ensures.err tells) (c.remove.ensures.durable tells) (c.remove.ensures.crash tells) (c.remove.ensures.time tells)
