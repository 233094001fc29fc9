-- What is told of a bad line of the script: the line itself, cut and printable.
use Rattle.std.specs.Prelude.{ℕ, zero, suc, ◌-◌, ◌&&◌, List, ◌++◌, ◌∷◌, [], map, take, drop, codes, decimal, nat_le, nat_lt, if◌then◌else◌}
use Rattle.dv_formats.specs.Parsing.{before, from, is_byte}

-- the most bytes of a line that are told
abbrev pub told_limit : ℕ
told_limit = 200

-- a printable byte stands for itself, and a question mark for any other
abbrev pub printable : ℕ → ℕ
printable b = if nat_le 32 b && nat_lt b 127 then b else 63

-- what stands behind the first line and its line feed
abbrev pub past_line : List ℕ → List ℕ
past_line b = drop 1 (from (is_byte 10) b)

-- what stands behind so many lines
abbrev pub past_lines : ℕ → List ℕ → List ℕ
past_lines zero b = b
past_lines (suc n) b = past_line (past_lines n b)

-- the line of this number, counted from 1, without its line feed
abbrev pub line_numbered : ℕ → List ℕ → List ℕ
line_numbered n b = before (is_byte 10) (past_lines (n - 1) b)

-- that line as it is told
abbrev pub told_line : ℕ → List ℕ → List ℕ
told_line n b = map printable (take told_limit (line_numbered n b))
