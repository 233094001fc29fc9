use Rattle.std.proofs.Common.{List, ℕ, sym, subst}
use Rattle.dv_chain.specs.Walks.{IsLeft}
use Rattle.dv_chain.proofs.Files.{all_applied, has_left}
use Rattle.dv_chain.proofs.file.File.apply_all.Goals as goal

pub returns-clause-applied : goal.returns-clause-applied
returns-clause-applied c = λ spots has.
    let file = c.args.self.now in
    let left = subst (λ (b : List ℕ). IsLeft b file.header.hdr_size spots file.end) (sym c.as_slice.ensures) (has_left spots file has) in
    all_applied spots file c.args.live.mailbox c.raise.new.self.mailbox c.number.result c.apply_from.result c.number.ensures.is c.raise.ensures.mailbox
    (c.apply_from.ensures.applied spots file.end (subst (λ (n : ℕ). IsLeft c.as_slice.result.now n spots file.end) (sym c.from-from.ensures) left))
