-- Header fields and sizes of a message (RFC 5322, sections 2.1 and 2.2).
use Rattle.std.specs.Prelude.{ℕ, ◌+◌, ◌-◌, ◌==◌, ◌&&◌, ◌||◌, Bool, false, not, if◌then◌else◌, List, [], ◌∷◌, ◌++◌, length, take, drop, Option, bytes_eq, find, position, take_while, count_by, is_some}
use Rattle.std.specs.List.{prefix_len, suffix_len, before_first, after_first}
use Rattle.std.specs.Option.{option_map}
use Rattle.std.specs.Str.{str_to_ascii_lowercase}
use Rattle.std.specs.Str.Lines.{lines}

-- ---- the header

-- white space of a header: a space or a tab (RFC 5322, section 2.2.2)
abbrev pub is_blank : ℕ → Bool
is_blank b = b == 32 || b == 9

-- a line of the header: the empty line isn't one
abbrev pub is_text_line : List ℕ → Bool
is_text_line line = not (length line == 0)

-- the lines before the first empty one, which ends the header; CRLF, LF and the text's end each end a line (RFC 5322, section 2.1)
abbrev pub header_lines : List ℕ → List (List ℕ)
header_lines message = take_while is_text_line (lines message)

-- a line that begins with white space goes on with the line before it (RFC 5322, section 2.2.3)
abbrev pub is_continuation : List ℕ → Bool
is_continuation [] = false
is_continuation (b ∷ line) = is_blank b

-- a line before unfolded ones: a continuation follows it directly
abbrev pub folded_onto : List ℕ → List (List ℕ) → List (List ℕ)
folded_onto line [] = line ∷ []
folded_onto line (next ∷ more) = if is_continuation next then (line ++ next) ∷ more else line ∷ next ∷ more

-- unfolding removes the line end before white space, and nothing else (RFC 5322, section 2.2.3)
abbrev pub unfolded : List (List ℕ) → List (List ℕ)
unfolded [] = []
unfolded (line ∷ more) = folded_onto line (unfolded more)

-- ---- fields

-- a colon, which ends a name
abbrev pub is_colon : ℕ → Bool
is_colon b = b == 58

-- without white space at the front
abbrev pub without_front_blanks : List ℕ → List ℕ
without_front_blanks text = drop (prefix_len is_blank text) text

-- without white space at the end
abbrev pub without_end_blanks : List ℕ → List ℕ
without_end_blanks text = take (length text - suffix_len is_blank text) text

-- without white space at both ends
abbrev pub trimmed : List ℕ → List ℕ
trimmed text = without_end_blanks (without_front_blanks text)

-- a field's name stands before the first colon, its value behind it (RFC 5322, section 2.2)
abbrev pub field_name : List ℕ → List ℕ
field_name field = before_first is_colon field

-- what stands behind the first colon, without white space at both ends
abbrev pub field_value : List ℕ → List ℕ
field_value field = trimmed (after_first is_colon field)

-- a field of this name, whatever the case of ASCII letters (RFC 5322, section 1.2.2)
abbrev pub is_named : List ℕ → List ℕ → Bool
is_named name field = is_some (position is_colon field) && bytes_eq (str_to_ascii_lowercase (field_name field)) (str_to_ascii_lowercase name)

-- the value of the first field of this name
abbrev pub field_of : List ℕ → List ℕ → Option (List ℕ)
field_of message name = option_map field_value (find (is_named name) (unfolded (header_lines message)))

-- ---- sizes

-- the number of bytes as they are
abbrev pub physical_size : List ℕ → ℕ
physical_size message = length message

-- each byte behind the byte before it, and behind 0 at the start
abbrev pub with_previous : ℕ → List ℕ → List (ℕ × ℕ)
with_previous previous [] = []
with_previous previous (b ∷ bytes) = (previous, b) ∷ with_previous b bytes

-- a line feed that no carriage return precedes
abbrev pub is_bare_feed : ℕ × ℕ → Bool
is_bare_feed pair = not (pair.0 == 13) && pair.1 == 10

-- the number of bytes when each line ends in CRLF (RFC 3501, section 2.2: lines end in CRLF)
abbrev pub virtual_size : List ℕ → ℕ
virtual_size message = length message + count_by is_bare_feed (with_previous 0 message)
