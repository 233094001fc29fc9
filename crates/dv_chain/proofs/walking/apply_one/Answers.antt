use Rattle.std.proofs.Common.{refl}
use Rattle.dv_apply.proofs.Refusing.{refused_none}
use Rattle.dv_chain.proofs.walking.apply_one.Goals as goal

pub returns-in-Err-BadAppend-clause-refused : goal.returns-in-Err-BadAppend-clause-refused
returns-in-Err-BadAppend-clause-refused c =
    let told = rw c.in-Err-BadAppend.field-0-is at c.in-Err-BadAppend.ensures.bad in
    (refl, refused_none c.args.live.now.mailbox c.args.r.now _ told)
