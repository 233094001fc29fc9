use Rattle.dv_mdbox_serving.proofs.calls.answer_call.Goals as goal

pub returns-in-Purge-clause-purges : goal.returns-in-Purge-clause-purges
returns-in-Purge-clause-purges g c = rw (c.in-Purge.is) c.purge.ensures.purges
