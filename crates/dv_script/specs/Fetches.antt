-- The line of a FETCH in parts: its front, each value behind a space, and its end.
use Rattle.std.specs.Prelude.{ℕ, List, ◌++◌, codes, decimal}

-- a FETCH up to its values: the message number, and the UID
abbrev pub numbered : ℕ → ℕ → List ℕ
numbered number uid = codes "* " ++ decimal number ++ codes " FETCH (UID " ++ decimal uid

-- the same behind the session's name and a space
abbrev pub fetch_front : List ℕ → ℕ → ℕ → List ℕ
fetch_front session number uid = session ++ codes " " ++ numbered number uid

-- what stands behind the values, with the line feed
abbrev pub fetch_end : List ℕ
fetch_end = codes ")\n"
