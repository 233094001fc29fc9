use Rattle.dv_playing.proofs.Plays.{answered, leaves, serial, stands}
use Rattle.dv_playing.proofs.laws.plays_are_serial.Goals as goal

pub returns-clause-serial : goal.returns-clause-serial
returns-clause-serial c = λ clock start base faults attempts rest may. serial clock start base faults attempts may rest

pub returns-clause-left : goal.returns-clause-left
returns-clause-left c = λ clock start base faults attempts line rest may write. leaves clock start base faults attempts may line rest write

pub returns-clause-stands : goal.returns-clause-stands
returns-clause-stands c = stands

pub returns-clause-answer : goal.returns-clause-answer
returns-clause-answer c = answered
