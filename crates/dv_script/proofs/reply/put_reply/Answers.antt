use Rattle.dv_script.proofs.reply.put_reply.Goals as goal

pub returns-in-Validity-clause-ok : goal.returns-in-Validity-clause-ok
returns-in-Validity-clause-ok c = rw c.in-Validity.is c.put_around-in-Validity.ensures.ok

pub returns-in-NextUid-clause-ok : goal.returns-in-NextUid-clause-ok
returns-in-NextUid-clause-ok c = rw c.in-NextUid.is c.put_around-in-NextUid.ensures.ok

pub returns-in-Unavailable-clause-ok : goal.returns-in-Unavailable-clause-ok
returns-in-Unavailable-clause-ok c = rw c.in-Unavailable.is c.put_before.ensures.ok

pub returns-in-NotSelected-clause-ok : goal.returns-in-NotSelected-clause-ok
returns-in-NotSelected-clause-ok c = rw c.in-NotSelected.is c.put-in-NotSelected.ensures.ok
