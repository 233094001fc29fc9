-- Lists of which one begins the other.
use Rattle.std.specs.Prelude.{List, length, nat_le, if◌then◌else◌}

-- the longer of two lists, the first where they are as long
abbrev pub longer : {A : Type 0} → List A → List A → List A
longer xs ys = if nat_le (length ys) (length xs) then xs else ys
