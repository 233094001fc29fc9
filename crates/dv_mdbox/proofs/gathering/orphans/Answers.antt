use Rattle.std.proofs.lemmas.Result.{IfOk-weaker}
use Rattle.dv_model.specs.declared.types.Mailbox.{Mailbox}
use Rattle.dv_maps.specs.Purges.{all_mapped}
use Rattle.dv_maps.specs.Tables.{IsTableOf}
use Rattle.dv_mdbox.specs.Gathering.{AreOrphans}
use Rattle.dv_mdbox.proofs.gathering.orphans.Goals as goal

pub returns : goal.returns
returns c =
    let m = c.args.live.now.mailbox in
    IfOk-weaker c.unnamed.result (λ files. (n : Mailbox) → IsTableOf (all_mapped n) c.in_ok-table.table → AreOrphans n c.args.names.now files.items) (λ files. AreOrphans m c.args.names.now files.items)
    (λ files are. are m c.in_ok-table.ensures) c.unnamed.ensures
