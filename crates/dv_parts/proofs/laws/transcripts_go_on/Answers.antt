use Rattle.dv_parts.proofs.Texts.{transcripts_go_on}
use Rattle.dv_parts.proofs.laws.transcripts_go_on.Goals as goal

pub returns : goal.returns
returns c = transcripts_go_on
