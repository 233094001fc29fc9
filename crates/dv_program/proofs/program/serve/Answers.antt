use Rattle.std.proofs.Common.{inl, inr, ⊎_elim}
use Rattle.dv_program.proofs.program.serve.Goals as goal

pub returns-clause-usage : goal.returns-clause-usage
returns-clause-usage g c = λ none.
    ⊎_elim (λ one. inl one) (⊎_elim (λ seven. inr (inr seven)) (λ four. inr (inl four.1))) (c.run-status.ensures.usage none).1

pub returns-clause-usage_output : goal.returns-clause-usage_output
returns-clause-usage_output g c = λ none tells.
    ⊎_elim (λ usage. inl usage) (λ four. inr four.1) ((c.run-status.ensures.usage none).2 tells)
