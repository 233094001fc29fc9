use Rattle.dv_answer.proofs.Keeping.{full_tells_all, move_tracks, records_lead, select_tracks, stay_leads, touch_tracks}
use Rattle.dv_answer.proofs.laws.sessions_keep_up.Goals as goal

pub returns-clause-select : goal.returns-clause-select
returns-clause-select c = select_tracks

pub returns-clause-touch : goal.returns-clause-touch
returns-clause-touch c = touch_tracks

pub returns-clause-moves : goal.returns-clause-moves
returns-clause-moves c = move_tracks

pub returns-clause-full : goal.returns-clause-full
returns-clause-full c = full_tells_all

pub returns-clause-stay : goal.returns-clause-stay
returns-clause-stay c = stay_leads

pub returns-clause-records : goal.returns-clause-records
returns-clause-records c = records_lead
