use Rattle.std.proofs.Common.{◌∙◌, List, ℕ, sym, subst}
use Rattle.dv_chain.specs.Walks.{IsLeft}
use Rattle.dv_chain.proofs.Files.{from_first, from_later, left_at}
use Rattle.dv_chain.proofs.file.File.apply_from.Goals as goal

pub returns-then-place-from-clause-applied : goal.returns-then-place-from-clause-applied
returns-then-place-from-clause-applied c = λ spots left has there.
    from_first spots left c.args.self.now c.args.place c.args.live.mailbox c.apply_all.result (c.if-place-from.true ∙ c.from.ensures) (c.apply_all.ensures.applied spots has)

pub returns-clause-applied : goal.returns-clause-applied
returns-clause-applied c = λ spots left has there.
    let file = c.args.self.now in
    from_later spots left file c.args.place c.args.live.mailbox c.apply_from.result (λ e. c.if-place-from.false (e ∙ sym c.from.ensures))
    (c.apply_from.ensures.applied left file.end (subst (λ (b : List ℕ). IsLeft b c.args.place left file.end) (sym c.as_slice.ensures) (left_at spots left file c.args.place has there)))
