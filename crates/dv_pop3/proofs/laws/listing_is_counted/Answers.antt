use Rattle.std.proofs.Common.{◌∙◌, ◌++◌, ℕ, ap, length}
use Rattle.std.specs.Prelude.{codes, decimal}
use Rattle.std.specs.List.{enumerate_from}
use Rattle.std.proofs.lemmas.List.FromFn.{length-enumerate_from}
use Rattle.dv_maildrop.specs.Answers.{octets_of, ok, stat_answer}
use Rattle.dv_maildrop.proofs.Counting.{all_kept, sum_numbered}
use Rattle.dv_pop3.proofs.laws.listing_is_counted.Goals as goal

pub returns : goal.returns
returns c = λ validity rows.
    ap stat_answer (all_kept (enumerate_from 1 rows))
    ∙ ap (λ (n : ℕ). ok (codes " " ++ decimal n ++ codes " " ++ decimal (octets_of (enumerate_from 1 rows)))) (length-enumerate_from 1 rows)
    ∙ ap (λ (n : ℕ). ok (codes " " ++ decimal (length rows) ++ codes " " ++ decimal n)) (sum_numbered 1 rows)
