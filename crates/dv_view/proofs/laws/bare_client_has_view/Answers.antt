use Rattle.dv_view.proofs.Listening.{bare_client_has_view}
use Rattle.dv_view.proofs.laws.bare_client_has_view.Goals as goal

pub returns : goal.returns
returns c = bare_client_has_view
