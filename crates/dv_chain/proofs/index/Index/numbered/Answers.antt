use Rattle.std.proofs.Common.{sym, subst}
use Rattle.dv_model.specs.Mailboxes.{IsValid}
use Rattle.dv_chain.proofs.Numbered.{numbered_valid}
use Rattle.dv_chain.proofs.index.Index.numbered.Goals as goal

pub returns-then-self-eq1-clause-valid : goal.returns-then-self-eq1-clause-valid
returns-then-self-eq1-clause-valid c =
    subst IsValid (sym c.numbered.ensures) (numbered_valid c.args.n c.args.self.mailbox c.requires.some c.requires.small c.requires.valid)
