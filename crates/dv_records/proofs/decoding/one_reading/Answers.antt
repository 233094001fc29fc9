use Rattle.dv_records.proofs.Readings as readings
use Rattle.dv_records.proofs.decoding.one_reading.Goals as goal

pub returns : goal.returns
returns c = readings.one_reading
