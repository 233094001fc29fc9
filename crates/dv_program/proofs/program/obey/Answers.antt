use Rattle.std.proofs.Common.{◌≡◌, ◌∙◌, inl, inr, sym, arith}
use Rattle.std.proofs.lemmas.Bool.{false≢true}
use Rattle.dv_program.proofs.program.obey.Goals as goal

pub returns-then-asks-clause-obeys : goal.returns-then-asks-clause-obeys
returns-then-asks-clause-obeys g c =
    let asked = sym c.asks.ensures ∙ c.if-asks.true in record {
      help = λ is told. c.write_text.ensures.text told;
      version = λ not is told. absurd (false≢true (sym not ∙ asked));
      usage = λ none. absurd (false≢true (sym none.help ∙ asked));
      usage_output = λ none told. absurd (false≢true (sym none.help ∙ asked));
      usage_only = λ one. absurd (Rattle.std.proofs.Common.⊎_elim (λ zero. omega (arith, one, zero)) (λ seven. omega (arith, one, seven)) c.write_text.ensures.status);
      sink = λ seven. c.write_text.ensures.cause seven;
      small = Rattle.std.proofs.Common.⊎_elim (λ zero. omega (arith, zero)) (λ seven. omega (arith, seven)) c.write_text.ensures.status;
    }
