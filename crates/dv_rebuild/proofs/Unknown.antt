-- How many of the kept messages have no row.
use Rattle.std.proofs.Common.{◌≡◌, ℕ, ◌+◌, ◌<◌, true, false, Bool, not, List, length, take, get_or, is_some, refl, sym, ◌∙◌, ap}
use Rattle.std.specs.Prelude.{if◌then◌else◌}
use Rattle.std.proofs.lemmas.List.Sums.{count_by_more_no, count_by_more_yes}
use Rattle.dv_model.specs.declared.types.Mailbox.{Mailbox}
use Rattle.dv_model.specs.Views.{row_of}
use Rattle.dv_rebuild.specs.Reports.{unknown_of}

pub unknown_more : (m : Mailbox) (kept : List ℕ) (i : ℕ) (b : Bool) (old new : ℕ) → i < length kept → b ≡ not (is_some (row_of m (get_or kept i 0))) → old ≡ unknown_of m (take i kept) → new ≡ (if b then old + 1 else old)
    → new ≡ unknown_of m (take (i + 1) kept)
unknown_more m kept i true old new less is was now =
    now ∙ ap (λ (k : ℕ). k + 1) was ∙ sym (count_by_more_yes (λ (uid : ℕ). not (is_some (row_of m uid))) kept i 0 less (sym is))
unknown_more m kept i false old new less is was now =
    now ∙ was ∙ sym (count_by_more_no (λ (uid : ℕ). not (is_some (row_of m uid))) kept i 0 less (sym is))
