-- Rows of a view by their message numbers.
use Rattle.std.specs.Prelude.{ℕ, ◌-◌, ◌≤◌, List, [], get_or, length, map}
use Rattle.dv_model.specs.declared.types.Shown.{Shown}

-- what stands where there is no row
abbrev pub no_row : Shown
no_row = record { uid = 0; flags = 0; keywords = []; modseq = 0 }

-- the row of this number, counted from 1 (RFC 3501, section 2.3.1.2)
abbrev pub row_at : List Shown → ℕ → Shown
row_at rows number = get_or rows (number - 1) no_row

-- each with its number
abbrev pub rows_at : List Shown → List ℕ → List (ℕ × Shown)
rows_at rows numbers = map (λ number. (number, row_at rows number)) numbers

-- a message number of these rows
abbrev pub IsNumber : List Shown → ℕ → Type 0
IsNumber rows number = (1 ≤ number) × (number ≤ length rows)
