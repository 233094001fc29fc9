-- A message as RETR sends it (RFC 1939, section 3).
use Rattle.std.specs.Prelude.{ℕ, List, [], ◌∷◌, ◌++◌, flat_map, nat_eq, if◌then◌else◌}
use Rattle.std.specs.Str.Lines.{lines}

-- the octets that end a line
abbrev pub crlf : List ℕ
crlf = 13 ∷ 10 ∷ []

-- The lines of a text: each ends in a line feed, with which a carriage return before it belongs to the line end; what stands
-- behind the last line feed is a line too, unless nothing does.
abbrev pub lines_of : List ℕ → List (List ℕ)
lines_of text = lines text

-- a line that begins with the termination octet gets another before it
abbrev pub stuffed : List ℕ → List ℕ
stuffed [] = []
stuffed (b ∷ line) = if nat_eq b 46 then 46 ∷ b ∷ line else b ∷ line

-- each line, terminated by a CRLF pair
abbrev pub message_text : List ℕ → List ℕ
message_text message = flat_map (λ line. stuffed line ++ crlf) (lines_of message)
