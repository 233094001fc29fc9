use Rattle.dv_model.proofs.Clients as clients
use Rattle.dv_model.proofs.laws.client_has_view.Goals as goal

pub returns : goal.returns
returns c = clients.client_has_view
