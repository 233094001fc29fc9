-- The lines of a text, as the parts between its line feeds give them.
use Rattle.std.proofs.Common.{◌≡◌, ℕ, ◌<◌, List, [], ◌∷◌, length, refl, arith}
use Rattle.std.specs.Str.Lines.{lines_of_parts, strip_carriage_return}

-- a part that a line feed ends is a line
pub line_before : (part : List ℕ) (parts : List (List ℕ)) → 0 < length parts
    → lines_of_parts (part ∷ parts) ≡ strip_carriage_return part ∷ lines_of_parts parts
line_before part [] some = absurd (omega arith)
line_before part (next ∷ parts) some = refl

-- the last part is a line as it is, where it has a byte
pub last_line : (part : List ℕ) → 0 < length part → lines_of_parts (part ∷ []) ≡ part ∷ []
last_line [] some = absurd (omega arith)
last_line (b ∷ part) some = grind arith
