use Rattle.dv_mdbox_serving.proofs.Lasting.{next_runs_begin}
use Rattle.dv_mdbox_serving.proofs.laws.next_runs_begin.Goals as goal

pub returns : goal.returns
returns c = next_runs_begin
