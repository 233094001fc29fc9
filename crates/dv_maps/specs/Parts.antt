-- The parts of a mailbox's rows that belong to a named extension.
use Rattle.std.specs.Prelude.{ℕ, ◌+◌, List, [], ◌∷◌, Option, bytes_eq, position, slice_get, slice_index}
use Rattle.std.specs.Int.{w16, w32, from_le_bytes}
use Rattle.std.specs.Option.{option_and_then}
use Rattle.dv_model.specs.declared.types.Extension.{Extension}

-- where the extension of this name stands in the table
abbrev pub place_in : List ℕ → List Extension → Option ℕ
place_in name es = position (λ e. bytes_eq e.name name) es

-- extensions and a row's parts go side by side
abbrev pub part_of : List ℕ → List Extension → List (List ℕ) → Option (List ℕ)
part_of name es parts = option_and_then (slice_get parts) (place_in name es)

-- the number of the four bytes from a place on, of which missing ones are 0
abbrev pub word_at : List ℕ → ℕ → ℕ
word_at part at =
    from_le_bytes w32 (slice_index part at ∷ slice_index part (at + 1) ∷ slice_index part (at + 2)
    ∷ slice_index part (at + 3) ∷ [])

-- of two bytes
abbrev pub half_at : List ℕ → ℕ → ℕ
half_at part at = from_le_bytes w16 (slice_index part at ∷ slice_index part (at + 1) ∷ [])
