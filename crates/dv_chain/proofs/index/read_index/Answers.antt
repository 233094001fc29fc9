use Rattle.dv_chain.proofs.index.read_index.Goals as goal

pub returns-in-Err-Fault-clause-found : goal.returns-in-Err-Fault-clause-found
returns-in-Err-Fault-clause-found c = λ s is.
    let told = rw c.in-Err-Fault.field-0-is at (c.in-Err-Fault.ensures.only s.version s.mailbox s.indexid s.mark is) in
    absurd cc
