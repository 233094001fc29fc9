-- What holds of POP3 sessions, whatever the messages are and whatever lines are given.
use Rattle.std.specs.Prelude.{◌≡◌, ℕ, List, [], ◌∷◌, ◌++◌, codes, nat_eq, bytes_eq, if◌then◌else◌}
use Rattle.dv_maildrop.specs.declared.types.PopLine.{PopLine}
use Rattle.dv_maildrop.specs.Answers.{last_line}
use Rattle.dv_maildrop.specs.Maildrops.{Transaction, behind}
use Rattle.dv_maildrop.specs.Messages.{lines_of, message_text}

-- ---- a client of RETR

-- a period at the front of a line is taken off (RFC 1939, section 3)
abbrev pub unstuffed : List ℕ → List ℕ
unstuffed [] = []
unstuffed (b ∷ line) = if nat_eq b 46 then line else b ∷ line

-- what a client has of the lines behind an answer's first one: those before the line of one period
abbrev pub heard : List (List ℕ) → List (List ℕ)
heard [] = []
heard (line ∷ lines) = if bytes_eq line (codes ".") then [] else unstuffed line ∷ heard lines

-- it has the message's lines
abbrev pub MessagesAreHeard : Type 0
MessagesAreHeard = (message : List ℕ) → heard (lines_of (message_text message ++ last_line)) ≡ lines_of message

-- ---- numbers and sizes

-- the maildrop behind some lines
abbrev pub behind_all : Transaction → List PopLine → Transaction
behind_all m [] = m
behind_all m (line ∷ lines) = behind_all (behind m line) lines

-- the k-th message is the same as when the session began, with its UID and its size
abbrev pub RowsStay : Type 0
RowsStay = (m : Transaction) (lines : List PopLine) → (behind_all m lines).rows ≡ m.rows
