use Rattle.std.proofs.Common.{refl, sym}
use Rattle.dv_commands.proofs.Grammar.{set_complete}
use Rattle.dv_catching.proofs.Sets.{no_set}
use Rattle.dv_catching.proofs.clients.client_of.Goals as goal

pub returns-in-Ok-clause-is : goal.returns-in-Ok-clause-is
returns-in-Ok-clause-is c =
    rw (sym c.in-Some.ensures.is, sym c.in-Some-number_below.ensures.is, set_complete c.args.set.now c.in-Ok.uids c.in-Ok.ensures.found) refl

pub returns-in-Err-Bad-clause-is : goal.returns-in-Err-Bad-clause-is
returns-in-Err-Bad-clause-is c =
    let bad = rw c.in-Err-Bad.field-0-is at c.in-Err-Bad.ensures.bad in
    rw (sym c.in-Some.ensures.is, sym c.in-Some-number_below.ensures.is, no_set c.args.set.now bad) refl
