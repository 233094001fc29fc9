use Rattle.std.proofs.Common.{◌≡◌, sym}
use Rattle.dv_model.proofs.Clients.{each_of_all}
use Rattle.dv_live.specs.declared.verdicts.Verdict.{Verdict}
use Rattle.dv_live.specs.Turning.{has_uid}
use Rattle.dv_live.proofs.Turning.{turned_same}
use Rattle.dv_live.proofs.merging.turned.Goals as goal

pub returns-then-not-changes : goal.returns-then-not-changes
returns-then-not-changes c =
    let P = λ (v : Verdict). v.met ≡ has_uid c.args.uids.now v.uid in
    sym (turned_same c.args.uids.now c.args.verdicts.now c.requires.uids (each_of_all P c.args.verdicts.now (c.changes.ensures c.if-not-changes.true)))
