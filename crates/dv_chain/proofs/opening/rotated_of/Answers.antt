use Rattle.std.proofs.Common.{◌∙◌, List, sym}
use Rattle.dv_logfile.specs.Scans.{Spot}
use Rattle.dv_chain.specs.Files.{HasSpots}
use Rattle.dv_chain.proofs.Found.{rotated_apart, rotated_bad, rotated_joins}
use Rattle.dv_chain.proofs.opening.rotated_of.Goals as goal

pub returns-then-goes_before-clause-ok : goal.returns-then-goes_before-clause-ok
returns-then-goes_before-clause-ok c =
    let others : (x : List Spot) × HasSpots x c.in-Ok.file = c.in-Ok.ensures.read.1 in
    rotated_joins c.args.log.now c.in-Ok.file c.args.bytes others.0 others.1 c.in-Ok.ensures.read.0 (λ spots. sym (c.goes_before.ensures spots others.0) ∙ c.if-goes_before.true)

pub returns-else-goes_before-clause-ok : goal.returns-else-goes_before-clause-ok
returns-else-goes_before-clause-ok c =
    let others : (x : List Spot) × HasSpots x c.in-Ok.file = c.in-Ok.ensures.read.1 in
    rotated_apart c.args.log.now c.in-Ok.file c.args.bytes others.0 others.1 c.in-Ok.ensures.read.0 (λ spots. sym (c.goes_before.ensures spots others.0) ∙ c.if-goes_before.false)

pub returns-in_default-clause-ok : goal.returns-in_default-clause-ok
returns-in_default-clause-ok c = rotated_bad c.args.log.now c.args.bytes c.in-Err.e c.in_default.not-NoMemory c.in-Err.ensures.read
