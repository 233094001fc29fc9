use Rattle.std.proofs.Common.{sym, subst}
use Rattle.std.specs.Prelude.{All}
use Rattle.dv_rows.specs.Parted.{HasUid}
use Rattle.dv_tests_mailbox.proofs.rows.put.Goals as goal

pub put_part-requires-clause-named : goal.put_part-requires-clause-named
put_part-requires-clause-named c = subst (λ rows. All (HasUid rows) c.args.uids.now) (sym c.reserve.ensures.rows) c.requires.named
