use Rattle.std.proofs.Common.{◌∙◌, ap, sym}
use Rattle.std.specs.Prelude.{is_some}
use Rattle.dv_tests_keeper.proofs.Asked.{is_selected}
use Rattle.dv_tests_keeper.proofs.calls.has_selected.Goals as goal

pub returns : goal.returns
returns g c is = is_selected c.args.s.now.follower.state c.is_none.result (ap is_some (sym c.refuse.ensures) ∙ c.is_none.ensures) is
