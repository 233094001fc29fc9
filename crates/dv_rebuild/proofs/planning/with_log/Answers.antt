use Rattle.std.proofs.Common.{◌≡◌, subst, Option}
use Rattle.std.specs.Prelude.{IfOk}
use Rattle.dv_openings.specs.Openings.{Snapshot, joining}
use Rattle.dv_openings.specs.Salvages.{salvaged_from}
use Rattle.dv_chain.specs.Files.{good_file}
use Rattle.dv_rebuild.specs.Sources.{taken_from}
use Rattle.dv_rebuild.specs.Walks.{salvaged_of}
use Rattle.dv_rebuild.proofs.planning.with_log.Goals as goal

pub returns-clause-salvaged : goal.returns-clause-salvaged
returns-clause-salvaged c = λ spots scan has is.
    let log = good_file c.args.log.now spots in
    let first = joining log scan in
    subst (λ (s : Option Snapshot). salvaged_of c.in_ok-salvage.salvage ≡ salvaged_from log first s) (c.counted-index.ensures.is spots) (c.in_ok-salvage.ensures spots first has (c.joined-first.ensures.is spots scan is))

pub returns-clause-taken : goal.returns-clause-taken
returns-clause-taken c = λ spots scan has is.
    let log = good_file c.args.log.now spots in
    let first = joining log scan in
    subst (λ (s : Option Snapshot). c.in_ok-taken.taken ≡ taken_from log first s) (c.counted-index.ensures.is spots) (c.in_ok-taken.ensures spots first has (c.joined-first.ensures.is spots scan is))
