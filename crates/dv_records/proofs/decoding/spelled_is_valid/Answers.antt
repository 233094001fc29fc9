use Rattle.dv_records.proofs.Written.{is_record}
use Rattle.dv_records.proofs.decoding.spelled_is_valid.Goals as goal

pub returns : goal.returns
returns c = is_record
