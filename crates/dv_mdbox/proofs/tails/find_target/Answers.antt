use Rattle.dv_mdbox.proofs.Tailing.{free_behind, free_new}
use Rattle.dv_mdbox.proofs.tails.find_target.Goals as goal

pub returns-in-Some-clause-free : goal.returns-in-Some-clause-free
returns-in-Some-clause-free g c = free_behind c.args.live.now.mailbox c.last_tail-tail.result c.in-Some.target c.last_tail-tail.ensures c.in-Some.ensures.1

pub returns-in-Ok-clause-free : goal.returns-in-Ok-clause-free
returns-in-Ok-clause-free g c =
    let found = c.in-Ok.ensures.finds in
    free_new c.args.live.now.mailbox c.in-Ok.file c.last_tail-tail.result found.0 c.last_tail-tail.ensures found.2
