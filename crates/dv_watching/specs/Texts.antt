-- What is written of lines beside which a search is kept.
use Rattle.std.specs.Prelude.{ℕ, List, [], ◌∷◌, ◌++◌, codes, decimal, flat_map, length, map, nat_lt, if◌then◌else◌}
use Rattle.dv_model.specs.declared.types.Key.{Key}
use Rattle.dv_model.specs.declared.types.Mailbox.{Mailbox}
use Rattle.dv_model.specs.Views.{shown}
use Rattle.dv_formats.specs.Scripts.{NamedLine}
use Rattle.dv_playing.specs.Playing.{Attempt, Play, Step, step}
use Rattle.dv_serving.specs.Scripts.{answer_text}
use Rattle.dv_live.specs.Keeping.{found_uids}

-- the UIDs of a mailbox's rows that meet the key
abbrev pub found_in : Key → Mailbox → List ℕ
found_in key m = found_uids key m.keywords (map shown m.rows)

-- a space and the UID
abbrev pub uid_text : ℕ → List ℕ
uid_text uid = 32 ∷ decimal uid

-- the line that tells UIDs
abbrev pub watch_text : List ℕ → List ℕ
watch_text uids = codes "WATCH" ++ flat_map uid_text uids ++ 10 ∷ []

-- what is told between two places of a play: where an entry was written, what the key finds then
abbrev pub told_behind : Key → Play → Play → List ℕ
told_behind key before behind =
    if nat_lt (length before.log.entries) (length behind.log.entries)
    then watch_text (found_in key behind.mailbox) else []

-- the replies to a line, and what is told behind it
abbrev pub line_text : (ℕ → ℕ) → Key → Play → NamedLine → Attempt → List ℕ
line_text clock key play line a =
    let one : Step = step clock play a in
    answer_text line one.replies ++ told_behind key play one.play

-- the same of lines in turn
abbrev pub lines_text : (ℕ → ℕ) → Key → Play → List NamedLine → List Attempt → List ℕ
lines_text clock key play lines [] = []
lines_text clock key play [] (a ∷ attempts) = []
lines_text clock key play (line ∷ lines) (a ∷ attempts) =
    line_text clock key play line a ++ lines_text clock key (step clock play a).play lines attempts
