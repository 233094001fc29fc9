use Rattle.std.proofs.Common.{◌∙◌, sym}
use Rattle.dv_chain.specs.Files.{good_file}
use Rattle.dv_rebuild.proofs.Plans.{joined_apart, joined_some}
use Rattle.dv_rebuild.proofs.planning.joined.Goals as goal

pub returns-then-goes_before-clause-is : goal.returns-then-goes_before-clause-is
returns-then-goes_before-clause-is c = λ spots scan is.
    joined_some (good_file c.args.log.now spots) c.in-Some.first scan (λ others. sym (c.goes_before.ensures spots others) ∙ c.if-goes_before.true) (rw c.in-Some.is at is)

pub returns-else-goes_before-clause-is : goal.returns-else-goes_before-clause-is
returns-else-goes_before-clause-is c = λ spots scan is.
    joined_apart (good_file c.args.log.now spots) c.in-Some.first scan (λ others. sym (c.goes_before.ensures spots others) ∙ c.if-goes_before.false) (rw c.in-Some.is at is)
