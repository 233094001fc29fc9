use Rattle.dv_program.proofs.pop3.pop_end.Goals as goal

pub returns-in-Disk-clause-cause : goal.returns-in-Disk-clause-cause
returns-in-Disk-clause-cause c = λ out out_now caused. c.unlisted.ensures.cause out out_now

pub returns-in-Disk-clause-found : goal.returns-in-Disk-clause-found
returns-in-Disk-clause-found c = λ folder none. c.unlisted.ensures.found folder
