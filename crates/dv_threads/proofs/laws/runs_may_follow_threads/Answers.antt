use Rattle.dv_threads.proofs.laws.runs_may_follow_threads.Goals as goal

pub returns : goal.returns
returns g c = λ clock faults lines e out out_now old new serves stayed. (serves.settled stayed, serves.next.seen)
