use Rattle.dv_search.proofs.search.eval.Goals as goal

pub returns : goal.returns
returns c = c.numbers_found.ensures c.args.k.now c.in_ok-sought.ensures
