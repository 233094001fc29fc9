use Rattle.std.proofs.Common.{◌≡◌, subst, Bool}
use Rattle.std.specs.Prelude.{IfOk}
use Rattle.dv_chain.specs.Files.{good_file, snapshot_of}
use Rattle.dv_rebuild.proofs.Sourced.{log_place}
use Rattle.dv_rebuild.proofs.sourcing.is_in_log.Goals as goal

pub returns : goal.returns
returns c = λ spots has.
    let log = good_file c.args.log.now spots in
    subst (λ (b : Bool). IfOk c.is_place.result (λ (is : Bool). is ≡ b)) (log_place log (snapshot_of c.args.index.now) c.if-index-log.false) (c.is_place.ensures spots has)
