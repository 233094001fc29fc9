use Rattle.dv_pop3_serving.proofs.laws.runs_may_follow_pop3.Goals as goal

pub returns : goal.returns
returns g c = λ clock faults lines e out out_now old new serves stayed. (serves.settled stayed, serves.next.seen)
