use Rattle.dv_parts.proofs.Texts.{one_session_is_serial, session_is_serial}
use Rattle.dv_parts.proofs.laws.one_session_is_serial.Goals as goal

pub returns-clause-alone : goal.returns-clause-alone
returns-clause-alone c = session_is_serial

pub returns-clause-one : goal.returns-clause-one
returns-clause-one c = one_session_is_serial
