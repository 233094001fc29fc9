use Rattle.dv_files.proofs.Removing.{put_stays, sweep_stays}
use Rattle.dv_files.proofs.laws.other_messages_stay.Goals as goal

pub returns-clause-put : goal.returns-clause-put
returns-clause-put c = λ uid other text old new apart put. put_stays uid other text old new apart put

pub returns-clause-swept : goal.returns-clause-swept
returns-clause-swept c = λ uid uids old new lacks some. sweep_stays uid uids old new lacks some
