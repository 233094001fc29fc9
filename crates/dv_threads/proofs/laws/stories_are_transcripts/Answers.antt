use Rattle.dv_threads.proofs.Transcripts as transcripts
use Rattle.dv_threads.proofs.laws.stories_are_transcripts.Goals as goal

pub returns : goal.returns
returns c = transcripts.stories_are_transcripts
