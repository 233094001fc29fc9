-- A run whose words aren't those of a run.
use Rattle.std.proofs.Common.{◌≡◌, ◌⊎◌, inl, inr, ⊎_elim, ℕ, List, refl, sym, ◌∙◌, ap, subst}
use Rattle.std.proofs.lemmas.Bool.{false≢true}
use Rattle.dv_cli.specs.declared.ending.End.{End}
use Rattle.dv_cli.specs.declared.ending.End.TheVariants as end
use Rattle.dv_cli.specs.Endings.{Concludes, IsStatus, status_of}
use Rattle.dv_cli.specs.Running.{memory_text, usage_text}
use Rattle.dv_cli.specs.Words.{Prints}
use Rattle.dv_cli.specs.WrongWords.{EndsUsage, IsUsageStatus, PrintsUsage}
use Rattle.dv_cli.proofs.WholeRuns.{Writes, told_plainly}

usage_status : (status : ℕ) → IsStatus end.Usage status → (status ≡ 1) ⊎ (status ≡ 7)
usage_status status (inl is) = inl is
usage_status status (inr (inl four)) = absurd (false≢true (sym four.0))
usage_status status (inr (inr seven)) = inr seven

memory_status : (status : ℕ) → IsStatus end.NoMemory status → (status ≡ 4) ⊎ (status ≡ 7)
memory_status status (inl is) = inl is
memory_status status (inr (inl four)) = absurd (false≢true (sym four.0))
memory_status status (inr (inr seven)) = inr seven

usage_prints : (status : ℕ) (old new : List ℕ) → Concludes end.Usage status old new
    → Prints 1 usage_text status old new
usage_prints status old new (inl told) = inl told
usage_prints status old new (inr (inl four)) = absurd (false≢true (sym four.0))
usage_prints status old new (inr (inr (inl seven))) = inr seven
usage_prints status old new (inr (inr (inr seven))) = absurd (false≢true (sym seven.0))

memory_prints : (status : ℕ) (old new : List ℕ) → Concludes end.NoMemory status old new
    → Prints 4 memory_text status old new
memory_prints status old new (inl told) = inl told
memory_prints status old new (inr (inl four)) = absurd (false≢true (sym four.0))
memory_prints status old new (inr (inr (inl seven))) = inr seven
memory_prints status old new (inr (inr (inr seven))) = absurd (false≢true (sym seven.0))

module _ (words : List (List ℕ)) (e : End) (status : ℕ) where
  pub usage_ends : EndsUsage words e → IsStatus e status → IsUsageStatus words status
  usage_ends (inl is) ended =
      ⊎_elim (λ one. inl one) (λ seven. inr (inl seven)) (usage_status status (subst (λ (x : End). IsStatus x status) is ended))
  usage_ends (inr lacks) ended =
      ⊎_elim (λ four. inr (inr (lacks.0, four))) (λ seven. inr (inl seven)) (memory_status status (subst (λ (x : End). IsStatus x status) lacks.1 ended))

  pub usage_told : (old new : List ℕ) → EndsUsage words e → Concludes e status old new
      → PrintsUsage words status old new
  usage_told old new (inl is) last = inl (usage_prints status old new (subst (λ (x : End). Concludes x status old new) is last))
  usage_told old new (inr lacks) last = inr (lacks.0, memory_prints status old new (subst (λ (x : End). Concludes x status old new) lacks.1 last))

  -- without want of memory it is told that they ask for nothing
  pub usage_output : (old new : List ℕ) → EndsUsage words e → Concludes e status old new → (status ≡ 4 → ⊥) → (status ≡ 7 → ⊥)
      → Writes old new (λ (text : List ℕ). text ≡ usage_text)
  usage_output old new (inl is) last not-four not-seven = (
    usage_text,
    (told_plainly end.Usage status old new (subst (λ (x : End). Concludes x status old new) is last) not-four not-seven).1,
    refl,
  )
  usage_output old new (inr lacks) last not-four not-seven =
      absurd (not-four ((told_plainly e status old new last not-four not-seven).0 ∙ ap status_of lacks.1))
