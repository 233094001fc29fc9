use Rattle.std.proofs.Common.{◌≡◌, subst, sym, Option}
use Rattle.std.specs.Prelude.{IfOk}
use Rattle.dv_logfile.specs.Scans.{GoodLog}
use Rattle.dv_openings.specs.Salvages.{salvaged_in}
use Rattle.dv_chain.specs.Files.{snapshot_in}
use Rattle.dv_rebuild.specs.declared.salvage.Salvage.{Salvage}
use Rattle.dv_rebuild.specs.declared.sourcing.Taken.{Taken}
use Rattle.dv_rebuild.specs.Sources.{taken_in}
use Rattle.dv_rebuild.specs.Walks.{salvaged_of}
use Rattle.dv_rebuild.proofs.planning.from_files.Goals as goal

pub returns-in-Some-clause-salvaged : goal.returns-in-Some-clause-salvaged
returns-in-Some-clause-salvaged c = λ front scan file good.
    let is = rw c.in-Some.is at file in
    subst (λ (f : Option GoodLog). IfOk c.with_log.result (λ (made : Salvage × Taken). salvaged_of made.0 ≡ salvaged_in f scan (snapshot_in c.args.index))) (sym is.2) (c.with_log.ensures.salvaged is.0 scan is.1 good)

pub returns-in-Some-clause-taken : goal.returns-in-Some-clause-taken
returns-in-Some-clause-taken c = λ front scan file good.
    let is = rw c.in-Some.is at file in
    subst (λ (f : Option GoodLog). IfOk c.with_log.result (λ (made : Salvage × Taken). made.1 ≡ taken_in f scan (snapshot_in c.args.index))) (sym is.2) (c.with_log.ensures.taken is.0 scan is.1 good)

pub returns-in-None-clause-salvaged : goal.returns-in-None-clause-salvaged
returns-in-None-clause-salvaged c = λ front scan file good.
    let is = rw c.in-None.is at file in
    subst (λ (f : Option GoodLog). IfOk c.without_log.result (λ (made : Salvage × Taken). salvaged_of made.0 ≡ salvaged_in f scan (snapshot_in c.args.index))) (sym is) (c.without_log.ensures.salvaged scan)

pub returns-in-None-clause-taken : goal.returns-in-None-clause-taken
returns-in-None-clause-taken c = λ front scan file good.
    let is = rw c.in-None.is at file in
    subst (λ (f : Option GoodLog). IfOk c.without_log.result (λ (made : Salvage × Taken). made.1 ≡ taken_in f scan (snapshot_in c.args.index))) (sym is) (c.without_log.ensures.taken scan)
