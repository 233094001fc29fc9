-- What a run tells, as text.
use Rattle.std.specs.Prelude.{ℕ, List, [], ◌∷◌, ◌++◌, codes}
use Rattle.dv_notices.specs.declared.telling.Told.{Told}
use Rattle.dv_notices.specs.declared.telling.Told.TheVariants as told
use Rattle.dv_notices.specs.Reports.{report_text}

-- the line that tells a script's bad line
abbrev pub bad_line_text : List ℕ → List ℕ
bad_line_text bad = codes "bad line: " ++ bad ++ 10 ∷ []

-- the text that is told
abbrev pub told_text : Told → List ℕ
told_text told.Nothing = []
told_text (told.BadLine bad) = bad_line_text bad
told_text (told.Rebuilt rebuilt) = report_text rebuilt
