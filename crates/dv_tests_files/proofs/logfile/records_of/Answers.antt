use Rattle.std.proofs.lemmas.List.Elements.{All-push, All-same}
use Rattle.dv_model.specs.Spelling.{IsRecord}
use Rattle.dv_tests_files.proofs.logfile.records_of.Goals as goal

pub loop-preserved : goal.loop-preserved
loop-preserved c = All-same IsRecord _ _ c.in_ok-push-in-Ok.ensures.ok (All-push IsRecord _ _ c.loop.invariant c.in-Ok.ensures.valid)
