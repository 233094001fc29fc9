use Rattle.std.proofs.Common.{◌≡◌, refl, subst}
use Rattle.std.specs.Prelude.{IfOk}
use Rattle.dv_openings.specs.Salvages.{Salvaged}
use Rattle.dv_chain.specs.Files.{good_file, snapshot_of}
use Rattle.dv_rebuild.specs.declared.salvage.Salvage.{Salvage}
use Rattle.dv_rebuild.specs.Walks.{salvaged_of}
use Rattle.dv_rebuild.proofs.Joins.{from_log, not_in_log, not_there}
use Rattle.dv_rebuild.proofs.joining.from_index.Goals as goal

pub returns-then-mark-log : goal.returns-then-mark-log
returns-then-mark-log c = λ spots before has file.
    c.from_earlier.ensures spots before has file (not_in_log (good_file c.args.log.now spots) (snapshot_of c.args.index) c.if-mark-log.true)

pub returns-in-Some : goal.returns-in-Some
returns-in-Some c = λ spots before has file.
    let log = good_file c.args.log.now spots in
    let counts = rw c.in-Some.is at (c.in_ok-before.ensures.counted spots has) in
    subst (λ (x : Salvaged). IfOk c.resume.result (λ (made : Salvage). salvaged_of made ≡ x))
    (from_log log (snapshot_of c.args.index) before _ counts.0 c.if-mark-log.false counts.1 refl) (c.resume.ensures spots counts.0 has counts.1 counts.2)

pub returns-in-None : goal.returns-in-None
returns-in-None c = λ spots before has file.
    let log = good_file c.args.log.now spots in
    let counts = rw c.in-None.is at (c.in_ok-before.ensures.counted spots has) in
    c.from_earlier-in-None.ensures spots before has file (not_there log (snapshot_of c.args.index) c.if-mark-log.false counts)
