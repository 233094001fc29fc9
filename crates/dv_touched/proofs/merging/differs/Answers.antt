use Rattle.std.proofs.Common.{◌∙◌, rules, sym}
use Rattle.dv_touched.proofs.Told.{uid_found}
use Rattle.dv_touched.proofs.merging.differs.Goals as goal

pub same-requires : goal.same-requires
same-requires c =
    let was = c.in-Some-Some.before.now in
    let is = c.in-Some-Some.after.now in
    uid_found c.args.uid c.args.old.now.rows was (search rules) ∙ sym (uid_found c.args.uid c.args.new.now.rows is (search rules))
