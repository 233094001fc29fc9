use Rattle.std.proofs.Common.{◌∙◌, sym}
use Rattle.dv_chain.specs.Files.{good_file, snapshot_of}
use Rattle.dv_chain.proofs.Joins.{from_named_end}
use Rattle.dv_chain.proofs.joining.from_end.Goals as goal

pub returns-clause-given : goal.returns-clause-given
returns-clause-given c = λ spots before has none nowhere.
    from_named_end (good_file c.args.log.now spots) before (snapshot_of c.args.index) c.in_ok-live.live.mailbox c.number.result c.apply_all.result none nowhere
    (sym c.is_before.ensures ∙ c.if-not-is_before.false) c.in_ok-live.ensures.ok c.number.ensures.is (c.apply_all.ensures.applied spots has)
