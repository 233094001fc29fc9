use Rattle.dv_logfile.proofs.OneLog as lemma
use Rattle.dv_logfile.proofs.texts.one_log.Goals as goal

pub returns : goal.returns
returns c = lemma.one_log
