-- What the clients of transcripts are told, and what they know of the mailbox.
use Rattle.std.specs.Prelude.{◌≡◌, ℕ, List, [], ◌∷◌, flat_map, fold, option_map, reverse, take, Option, Some, None}
use Rattle.dv_model.specs.declared.types.Command.{Command}
use Rattle.dv_model.specs.declared.types.Mark.{Mark}
use Rattle.dv_model.specs.declared.types.Reply.{Reply}
use Rattle.dv_model.specs.declared.types.Reply.TheVariants as reply
use Rattle.dv_model.specs.declared.types.Step.{Step}
use Rattle.dv_model.specs.declared.types.Step.TheVariants.{Full}
use Rattle.dv_model.specs.Sessions.{State, step_of}
use Rattle.dv_model.specs.Transcripts.{Line, Turn, commands_of, replies_of}
use Rattle.dv_interleavings.specs.Promises.{all_known, heard_of}

-- ---- answers

-- the commands that were answered, each with its replies
abbrev pub answers_of : List Command → List (List Reply) → List (Command × List Reply)
answers_of (c ∷ commands) (replies ∷ rest) = (c, replies) ∷ answers_of commands rest
answers_of commands rest = []

-- those of one session of a script's lines
abbrev pub line_answers : ℕ → List Line → List (List Reply) → List (Command × List Reply)
line_answers s lines replies = answers_of (commands_of s lines) (replies_of s lines replies)

-- ---- up to which place a session was told

-- the place of the log that a last line names; a refusal names none
abbrev pub place_in : Reply → Option Mark
place_in (reply.Done word mark appended modified) = Some mark
place_in (reply.Gone uid mark modified) = Some mark
place_in (reply.Damaged uid mark) = Some mark
place_in r = None

-- the place that the last of some lines names
abbrev pub place_of : List Reply → Option Mark
place_of replies = by_last (reverse replies)
  where
    by_last : List Reply → Option Mark
    by_last [] = None
    by_last (r ∷ front) = place_in r

-- by which step an answer told its session, and up to which place
abbrev pub told_by : Command × List Reply → Option (Step × Mark)
told_by (c, replies) = option_map (λ mark. (step_of c, mark)) (place_of replies)

-- a refusal tells nothing
abbrev pub told_then : Option (Step × Mark) → Command × List Reply → Option (Step × Mark)
told_then before answer = by_answer (told_by answer)
  where
    by_answer : Option (Step × Mark) → Option (Step × Mark)
    by_answer None = before
    by_answer (Some told) = Some told

-- how these answers told a session last
abbrev pub told_last : List (Command × List Reply) → Option (Step × Mark)
told_last answers = fold told_then None answers

-- ---- equal mailboxes

-- Where both were told by Full steps up to one place, their clients know the same messages, by
-- number, with the same flags and keywords. A Full step holds nothing back; a Held one, of a FETCH,
-- STORE or SEARCH by numbers, must not send an EXPUNGE (RFC 3501, section 7.4.1).
abbrev pub KnowAlike : List (Command × List Reply) → List (Command × List Reply) → Type 0
KnowAlike one other = (mark : Mark)
    → told_last one ≡ Some (Full, mark) → told_last other ≡ Some (Full, mark)
    → all_known (flat_map heard_of one) ≡ all_known (flat_map heard_of other)

-- so behind any of the answers of the one, and any of the other
abbrev pub KnowAlikeWhereTold : List (Command × List Reply) → List (Command × List Reply)
    → Type 0
KnowAlikeWhereTold one other = (j k : ℕ) → KnowAlike (take j one) (take k other)

-- ---- the state of a session

-- behind some turns
abbrev pub state_behind : State → List Turn → State
state_behind x [] = x
state_behind x (t ∷ turns) = state_behind t.after turns
