-- A line that was written is the last line.
use Rattle.std.proofs.Common.{◌≡◌, ◌⊎◌, inl, inr, ℕ, List, subst, ◌∙◌}
use Rattle.dv_shelf.specs.Streams.{Appends, AppendsFront}
use Rattle.dv_cli.specs.declared.ending.End.{End}
use Rattle.dv_cli.specs.Endings.{status_of, text_of, Concludes}

abbrev Wrote : ℕ → ℕ → List ℕ → List ℕ → List ℕ → Type 0
Wrote status result line old new =
    ((result ≡ status) × Appends old new line) ⊎ ((result ≡ 7) × AppendsFront old new line)

pub concluded : (e : End) (status result : ℕ) (line old new : List ℕ) → status ≡ status_of e
    → line ≡ text_of e → Wrote status result line old new → Concludes e result old new
concluded e status result line old new is text (inl w) =
    inl (w.0 ∙ is, subst (λ (l : List ℕ). Appends old new l) text w.1)
concluded e status result line old new is text (inr w) =
    inr (inr (inl (w.0, subst (λ (l : List ℕ). AppendsFront old new l) text w.1)))
