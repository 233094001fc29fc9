use Rattle.dv_writing.proofs.Opened.{kept_is_opened}
use Rattle.dv_writing.proofs.laws.opened_is_kept.Goals as goal

pub returns : goal.returns
returns c = λ kept opened folder owes rest of found. kept_is_opened kept opened folder owes rest of found
