use Rattle.dv_front.proofs.roll.enter.Given as goal

abbrev pub ghosts-append : goal.ghosts-append
ghosts-append a = record { table = a.p.now.table }
