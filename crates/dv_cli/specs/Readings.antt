-- What is read of a script.
use Rattle.std.specs.Prelude.{◌≡◌, ◌≤◌, ◌++◌, ℕ, List, length}
use Rattle.dv_model.specs.Counts.{Rose}
use Rattle.dv_cli.specs.declared.reading.ReadEnd.{ReadEnd}
use Rattle.dv_cli.specs.declared.reading.ReadEnd.TheVariants.{Source, NoMemory}

-- one byte more than the longest script, which shows that it is too long
abbrev pub read_limit : ℕ
read_limit = 67108865

-- the source's count rose, and is the number said
abbrev pub IsSourceFault : ReadEnd → ℕ → ℕ → Type 0
IsSourceFault (Source n) before now = Rose before now × (n ≡ now)
IsSourceFault NoMemory before now = Unit {0}

-- a front of the source was taken, so long at most
abbrev pub TakesFront : List ℕ → List ℕ → Type 0
TakesFront old new = (taken : List ℕ) × (old ≡ taken ++ new) × (length taken ≤ read_limit)
