-- What a POP3 session is given, line by line, and how it answers.
use Rattle.std.specs.Prelude.{◌≡◌, ◌⊎◌, ℕ, true, false, List, [], ◌∷◌, ◌++◌, map, Result, Ok, Err, ⊤}
use Rattle.dv_model.specs.Counts.{Rose}
use Rattle.dv_model.specs.Journals.{Log}
use Rattle.dv_shelf.specs.Streams.{Appends, AppendsFront}
use Rattle.dv_serving.specs.Outputs.{Output}
use Rattle.dv_maildrop.specs.declared.types.PopLine.{PopLine}
use Rattle.dv_maildrop.specs.Answers.{Store, answer, answers}
use Rattle.dv_maildrop.specs.Maildrops.{asked, behind}
use Rattle.dv_member.specs.Members.{Member}
use Rattle.dv_pop3.specs.declared.lines.LinesEnd.{LinesEnd}
use Rattle.dv_pop3.specs.declared.lines.LinesEnd.TheVariants as ending
use Rattle.dv_pop3.specs.Clients.{Client, IsLater}
use Rattle.dv_pop3.specs.Findings.{Leaves, Says}

-- a line, what the store said of what it was asked, and its session behind that
pub record Exchange : Type 0 where
  pub line : PopLine
  pub store : Store
  pub behind : Member

abbrev pub lines_of : List Exchange → List PopLine
lines_of xs = map (λ x. x.line) xs

-- the lines beside what the store said
abbrev pub asks_of : List Exchange → List (Store × PopLine)
asks_of xs = map (λ x. (x.store, x.line)) xs

-- behind a line
abbrev pub client_behind : Client → Exchange → Client
client_behind p x = record { maildrop = behind p.maildrop x.line; session = x.behind }

-- Each line in turn is answered by one session, and none behind QUIT: what the store said is so of
-- the log that the session has seen then.
abbrev pub AreAnswered : Log → ℕ → Client → List Exchange → Client → Type 0
AreAnswered start count p [] q = q ≡ p
AreAnswered start count p (x ∷ xs) q =
    (p.maildrop.ended ≡ false)
    × Says start count p.maildrop x.store (asked p.maildrop x.line) p.session x.behind
    × IsLater p.session x.behind
    × AreAnswered start count (client_behind p x) xs q

-- How it ends: behind QUIT or the last line; or memory ran out at a line; or the output failed at
-- the answer of the last of them, of which a part may be written.
abbrev pub EndsLines : Log → ℕ → LinesEnd → Client → Client → List PopLine → Type 0
EndsLines start count ending.Answered p q rest =
    (q ≡ p) × ((p.maildrop.ended ≡ true) ⊎ (rest ≡ []))
EndsLines start count ending.NoMemory p q rest =
    (line : PopLine) × (lines : List PopLine) × (rest ≡ line ∷ lines)
    × (p.maildrop.ended ≡ false) × (q.maildrop ≡ p.maildrop)
    × Leaves start count p.maildrop (asked p.maildrop line) p.session q.session
    × IsLater p.session q.session
EndsLines start count (ending.Sink faults) p q rest = q ≡ p

-- the answers were written, or a front of them where the output failed
abbrev pub WritesAnswers : LinesEnd → List ℕ → List ℕ → List ℕ → Type 0
WritesAnswers (ending.Sink faults) text old new = AppendsFront old new text
WritesAnswers e text old new = Appends old new text

-- A session was given these lines, of which a front was answered, and so it ends.
pub record AnswersLines (start : Log) (count : ℕ) (p q : Client) (lines : List PopLine)
    (e : LinesEnd) : Type 0 where
  pub exchanges : List Exchange
  pub last : Client
  pub answered : AreAnswered start count p exchanges last
  pub rest : List PopLine
  pub lines_are : lines ≡ lines_of exchanges ++ rest
  pub ends : EndsLines start count e last q rest

-- The answers were written behind this text.
pub record HasAnsweredLines (start : Log) (count : ℕ) (text : List ℕ) (p q : Client)
    (lines : List PopLine) (e : LinesEnd) (out : Output) : Type 0 where
  pub answers_lines : AnswersLines start count p q lines e
  pub output : out.told → WritesAnswers e
      (text ++ answers p.maildrop (asks_of answers_lines.exchanges)) out.taken out.taken_now

-- an output that failed has a count that rose, and it is told
abbrev pub IsCaused : ℕ → ℕ → LinesEnd → Type 0
IsCaused before now (ending.Sink faults) = Rose before now × (faults ≡ now)
IsCaused before now e = ⊤

-- ---- one line

-- it is answered, and all of the answer was written; or memory ran out, and nothing was written; or
-- the output failed at the answer
abbrev pub TakesLine : Log → ℕ → PopLine → Client → Client → Result (Unit {0}) LinesEnd → Output
    → Type 0
TakesLine start count line p q (Ok done) out = (store : Store)
    × Says start count p.maildrop store (asked p.maildrop line) p.session q.session
    × (q.maildrop ≡ behind p.maildrop line)
    × (out.told → Appends out.taken out.taken_now (answer store p.maildrop line))
TakesLine start count line p q (Err ending.Answered) out = ⊥
TakesLine start count line p q (Err ending.NoMemory) out = (q.maildrop ≡ p.maildrop)
    × Leaves start count p.maildrop (asked p.maildrop line) p.session q.session
    × (out.told → out.taken_now ≡ out.taken)
TakesLine start count line p q (Err (ending.Sink faults)) out = (store : Store)
    × Says start count p.maildrop store (asked p.maildrop line) p.session q.session
    × (q.maildrop ≡ behind p.maildrop line)
    × (out.told → AppendsFront out.taken out.taken_now (answer store p.maildrop line))

-- a failed output has its cause
abbrev pub IsFailedBy : ℕ → ℕ → Result (Unit {0}) LinesEnd → Type 0
IsFailedBy before now (Ok done) = ⊤
IsFailedBy before now (Err e) = IsCaused before now e
