use Rattle.std.proofs.Common.{rules}
use Rattle.std.proofs.lemmas.Fn.{filter_same}
use Rattle.dv_keywords.proofs.places.change_items.Goals as goal

pub returns-in-Remove-clause-ok : goal.returns-in-Remove-clause-ok
returns-in-Remove-clause-ok c = rw c.in-Remove.is (filter_same _ _ _ (λ x b f' k. search rules) _ _ c.retain.ensures.filtered)
