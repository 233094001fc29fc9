use Rattle.dv_clients.proofs.Clients.{serial_numbers, spoken_numbers}
use Rattle.dv_clients.proofs.laws.numbers_stay.Goals as goal

pub returns-clause-spoken : goal.returns-clause-spoken
returns-clause-spoken c = spoken_numbers

pub returns-clause-serial : goal.returns-clause-serial
returns-clause-serial c = serial_numbers
