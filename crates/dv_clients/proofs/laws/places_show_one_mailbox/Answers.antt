use Rattle.dv_clients.proofs.Clients.{serial_alike, shown_to, spoken_alike, views_equal}
use Rattle.dv_clients.proofs.laws.places_show_one_mailbox.Goals as goal

pub returns-clause-views : goal.returns-clause-views
returns-clause-views c = views_equal

pub returns-clause-spoken : goal.returns-clause-spoken
returns-clause-spoken c = spoken_alike

pub returns-clause-serial : goal.returns-clause-serial
returns-clause-serial c = serial_alike

pub returns-clause-clients : goal.returns-clause-clients
returns-clause-clients c = λ log base author commands replies s k sound selected. shown_to log sound base author commands replies s k selected
