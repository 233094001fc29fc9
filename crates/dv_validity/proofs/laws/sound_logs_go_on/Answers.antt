use Rattle.dv_validity.proofs.Going.{prefixes_valid, runs_written, sound_written}
use Rattle.dv_validity.proofs.laws.sound_logs_go_on.Goals as goal

pub returns-clause-valid : goal.returns-clause-valid
returns-clause-valid c = prefixes_valid

pub returns-clause-sound : goal.returns-clause-sound
returns-clause-sound c = sound_written

pub returns-clause-runs : goal.returns-clause-runs
returns-clause-runs c = runs_written
