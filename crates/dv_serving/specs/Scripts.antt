-- The lines of a script by the numbers of their sessions, and the text that answers them.
use Rattle.std.specs.Prelude.{ℕ, ◌+◌, List, [], ◌∷◌, ◌++◌, map, flat_map, bytes_eq, if◌then◌else◌}
use Rattle.dv_model.specs.declared.types.Reply.{Reply}
use Rattle.dv_model.specs.Texts.{line_text}
use Rattle.dv_model.specs.Transcripts as transcripts
use Rattle.dv_formats.specs.Scripts.{NamedLine, sessions_of}

-- sessions are numbered from 1 on, in the order of their first lines
abbrev pub number_among : List (List ℕ) → List ℕ → ℕ
number_among [] name = 1
number_among (first ∷ names) name =
    if bytes_eq name first then 1 else 1 + number_among names name

-- a line by its session's number
abbrev pub numbered_by : List (List ℕ) → NamedLine → transcripts.Line
numbered_by names line = (number_among names line.0, line.1)

-- all lines of a script so
abbrev pub numbered : List NamedLine → List transcripts.Line
numbered lines = map (numbered_by (sessions_of lines)) lines

-- the lines that answer one line of the script
abbrev pub answer_text : NamedLine → List Reply → List ℕ
answer_text line replies = flat_map (line_text line.0) replies

-- the text of the replies, a line of the script after another
abbrev pub replies_text : List NamedLine → List (List Reply) → List ℕ
replies_text lines [] = []
replies_text [] (replies ∷ rest) = []
replies_text (line ∷ lines) (replies ∷ rest) =
    answer_text line replies ++ replies_text lines rest
