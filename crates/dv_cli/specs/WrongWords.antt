-- How a run ends whose words ask for nothing.
use Rattle.std.specs.Prelude.{◌≡◌, ◌⊎◌, ℕ, List}
use Rattle.dv_cli.specs.declared.ending.End.{End}
use Rattle.dv_cli.specs.declared.ending.End.TheVariants as end
use Rattle.dv_cli.specs.Running.{memory_text, usage_text}
use Rattle.dv_cli.specs.Words.{IsWatch, Prints}

-- They are told to ask for nothing; or memory ran out before one of them was seen to be no key.
abbrev pub EndsUsage : List (List ℕ) → End → Type 0
EndsUsage words e = (e ≡ end.Usage) ⊎ (IsWatch words × (e ≡ end.NoMemory))

-- the status then
abbrev pub IsUsageStatus : List (List ℕ) → ℕ → Type 0
IsUsageStatus words status =
    (status ≡ 1) ⊎ (status ≡ 7) ⊎ (IsWatch words × (status ≡ 4))

-- and what is printed
abbrev pub PrintsUsage : List (List ℕ) → ℕ → List ℕ → List ℕ → Type 0
PrintsUsage words status old new =
    Prints 1 usage_text status old new ⊎ (IsWatch words × Prints 4 memory_text status old new)
