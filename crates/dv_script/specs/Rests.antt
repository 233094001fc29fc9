-- What a script says from a place of it on.
use Rattle.std.specs.Prelude.{◌≡◌, ℕ, Bool, true, false, List, [], length, Result, Ok, Err, is_ok, nat_lt, if◌then◌else◌}
use Rattle.dv_formats.specs.Scripts.{NamedLine, line_limit}
use Rattle.dv_formats.specs.Parsing.{ScriptFault, first_line, is_skipped, lines_at}

-- the lines of these bytes, behind lines of these sessions, or the first fault
abbrev pub lines_from : List (List ℕ) → List ℕ → Result (List NamedLine) ScriptFault
lines_from names b = lines_at (length b) 1 [] names b

-- no line has a fault
abbrev pub is_good : List (List ℕ) → List ℕ → Bool
is_good names b = is_ok (lines_from names b)

-- the lines, none where one has a fault
abbrev pub or_none : Result (List NamedLine) ScriptFault → List NamedLine
or_none (Ok lines) = lines
or_none (Err fault) = []

abbrev pub left_from : List (List ℕ) → List ℕ → List NamedLine
left_from names b = or_none (lines_from names b)

-- a line without a command and without a fault
unfoldable pub is_passed : List ℕ → Bool
is_passed text = if nat_lt line_limit (length text) then false else is_skipped text

-- a line with a command, or with a fault, begins these bytes
abbrev pub BeginsCommand : List ℕ → Type 0
BeginsCommand b = is_passed (first_line b).0 ≡ false

-- of good bytes the others say the same
abbrev pub LeavesOut : List ℕ → List ℕ → Type 0
LeavesOut b rest = (names : List (List ℕ))
    → is_good names b ≡ true → lines_from names rest ≡ lines_from names b
