use Rattle.std.proofs.Common.{◌∙◌, List, ℕ, Ok, sym, ap, length}
use Rattle.dv_sets.proofs.choosing.numbers.Goals as goal

pub returns-clause-named : goal.returns-clause-named
returns-clause-named c = λ view same none.
    ap (λ (ns : List ℕ). Ok ns) (c.in_ok-numbers_among.ensures view (ap length same ∙ sym c.len-count.ensures))
