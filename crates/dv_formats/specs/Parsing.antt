-- What a script says, as a function of its bytes. A reader takes the front that is of its form, and
-- gives what that says and the bytes behind it; None where no front is (RFC 3501, section 9).
use Rattle.std.specs.Prelude.{ℕ, zero, suc, ◌+◌, ◌-◌, ◌^◌, Bool, true, false, ◌&&◌, ◌||◌, List, [], ◌∷◌, ◌++◌, length, map, take, drop, fold, position, count_by, Option, Some, None, Result, Ok, Err, codes, decimal, nat_eq, nat_le, nat_lt, bytes_eq, if◌then◌else◌}
use Rattle.std.specs.List.{list_all, list_any, position_or_len, slice_split}
use Rattle.std.specs.Str.Lines.{strip_carriage_return}
use Rattle.std.specs.Str.Parse.{digits_value}
use Rattle.dv_model.specs.declared.types.Command.{Command}
use Rattle.dv_model.specs.declared.types.Command.TheVariants as command
use Rattle.dv_model.specs.declared.types.End.{End}
use Rattle.dv_model.specs.declared.types.End.TheVariants.{Number, Star}
use Rattle.dv_model.specs.declared.types.How.{How}
use Rattle.dv_model.specs.declared.types.How.TheVariants.{Add, Remove, Replace}
use Rattle.dv_model.specs.declared.types.Item.{Item}
use Rattle.dv_model.specs.declared.types.Item.TheVariants as item
use Rattle.dv_model.specs.declared.types.Key.{Key}
use Rattle.dv_model.specs.declared.types.Key.TheVariants as key
use Rattle.dv_model.specs.declared.types.Span.{Span}
use Rattle.dv_model.specs.Mailboxes.{last_modseq}
use Rattle.dv_formats.specs.Scripts.{NamedLine, flag_bit, is_field_byte, is_quotable, is_session_byte, key_levels, line_limit, script_limit, session_limit, with_flag}

-- ---- readers

-- goes on with what was read
infixl 10 ◌>>=◌
abbrev pub ◌>>=◌ : {A B : Type 0} → Option A → (A → Option B) → Option B
None >>= f = None
(Some x) >>= f = f x

-- the bytes behind this text, which begins them
abbrev pub after : List ℕ → List ℕ → Option (List ℕ)
after text b =
    if bytes_eq (take (length text) b) text then Some (drop (length text) b) else None

-- the bytes before this text, which ends them
abbrev pub ahead_of : List ℕ → List ℕ → Option (List ℕ)
ahead_of text b =
    if bytes_eq (drop (length b - length text) b) text then Some (take (length b - length text) b)
    else None

-- all was read
abbrev pub ended : {A : Type 0} → List ℕ → A → Option A
ended [] x = Some x
ended (b ∷ bs) x = None

-- the bytes before the first one that passes the test, and those from it on
abbrev pub before : (ℕ → Bool) → List ℕ → List ℕ
before test b = take (position_or_len test b) b

abbrev pub from : (ℕ → Bool) → List ℕ → List ℕ
from test b = drop (position_or_len test b) b

abbrev pub is_byte : ℕ → ℕ → Bool
is_byte byte n = nat_eq n byte

-- a word ends before a space or a closing parenthesis
abbrev pub is_stop : ℕ → Bool
is_stop n = nat_eq n 32 || nat_eq n 41

-- one of these, and others while a space follows, at most so many in all
abbrev pub with_others : {A : Type 0} → A × List ℕ → Option (List ℕ) → (List ℕ → Option (List A × List ℕ)) → Option (List A × List ℕ)
with_others first None read = Some (first.0 ∷ [], first.1)
with_others first (Some b) read = read b >>= λ others. Some (first.0 ∷ others.0, others.1)

unfoldable pub several : {A : Type 0} → (List ℕ → Option (A × List ℕ)) → ℕ → List ℕ → Option (List A × List ℕ)
several read zero b = None
several read (suc most) b =
    read b >>= λ first. with_others first (after (codes " ") first.1) (several read most)

-- ---- numbers and names

-- a number below this one, in decimal digits and without leading zeros
unfoldable pub number_of : ℕ → List ℕ → Option ℕ
number_of limit b =
    if nat_lt (digits_value 10 b) limit && bytes_eq b (decimal (digits_value 10 b))
    then Some (digits_value 10 b) else None

-- a keyword's name: 1 to 255 printable characters that no list, string or wildcard uses
abbrev pub is_name_byte : ℕ → Bool
is_name_byte n =
    nat_le 0x21 n && nat_le n 0x7e && (if list_any (nat_eq n) (codes "(){\"\\%*") then false else true)

unfoldable pub is_name : List ℕ → Bool
is_name name = nat_le 1 (length name) && nat_le (length name) 255 && list_all is_name_byte name

-- a field's name: 1 to 64 letters, digits and hyphens
unfoldable pub is_field_name : List ℕ → Bool
is_field_name name =
    nat_le 1 (length name) && nat_le (length name) 64 && list_all is_field_byte name

-- a session's name: 1 to 16 small letters and digits
unfoldable pub is_session_name : List ℕ → Bool
is_session_name name =
    nat_le 1 (length name) && nat_le (length name) 16 && list_all is_session_byte name

-- ---- sets

-- a number from 1, or `*`
unfoldable pub end_of : List ℕ → Option End
end_of b =
    if bytes_eq b (codes "*") then Some Star
    else (number_of (2 ^ 32) b >>= λ n. if nat_eq n 0 then None else Some (Number n))

-- one end, or two with a colon between them
abbrev pub span_by : List (List ℕ) → Option Span
span_by (x ∷ []) = end_of x >>= λ end. Some (record { from = end; to = end })
span_by (x ∷ y ∷ []) = end_of x >>= λ end. end_of y >>= λ to. Some (record { from = end; to = to })
span_by pieces = None

abbrev pub span_of : List ℕ → Option Span
span_of b = span_by (slice_split (λ n. nat_eq n 58) b)

-- all of these, where each is some
abbrev pub each_of : {A B : Type 0} → (A → Option B) → List A → Option (List B)
each_of read [] = Some []
each_of read (x ∷ xs) = read x >>= λ y. each_of read xs >>= λ ys. Some (y ∷ ys)

-- ranges with a comma between two
unfoldable pub set_of : List ℕ → Option (List Span)
set_of b = each_of span_of (slice_split (λ n. nat_eq n 44) b)

-- ---- flags

-- a system flag or a keyword
abbrev pub is_flag : List ℕ → Bool
is_flag word = by_bit (flag_bit word)
  where
    by_bit : Option ℕ → Bool
    by_bit (Some bit) = true
    by_bit None = is_name word

-- a list's words
abbrev pub flag_words_of : List ℕ → List (List ℕ)
flag_words_of [] = []
flag_words_of (b ∷ bs) = slice_split (λ n. nat_eq n 32) (b ∷ bs)

-- the flags and keywords of these words; one that is named again counts at its first place
abbrev pub flags_named : List (List ℕ) → Option (ℕ × List (List ℕ))
flags_named words = if list_all is_flag words then Some (fold with_flag (0, []) words) else None

-- flags in parentheses, and nothing behind them
unfoldable pub flags_of : List ℕ → Option (ℕ × List (List ℕ))
flags_of b = do
  rest ← after (codes "(") b
  words ← ahead_of (codes ")") rest
  flags_named (flag_words_of words)

-- ---- FETCH

-- a field behind its word
abbrev pub field_at : List ℕ → Option (Item × List ℕ)
field_at b =
    if is_field_name (before is_stop b) then Some (item.Field (before is_stop b), from is_stop b)
    else None

-- an item of one word
abbrev pub plain_item : List ℕ → Option Item
plain_item word =
    if bytes_eq word (codes "FLAGS") then Some item.Flags
    else (if bytes_eq word (codes "RFC822.SIZE") then Some item.Size
    else (if bytes_eq word (codes "BODY[]") then Some item.Body
    else (if bytes_eq word (codes "MODSEQ") then Some item.Modseq else None)))

-- what a FETCH asks for
unfoldable pub item_at : List ℕ → Option (Item × List ℕ)
item_at b = by_field (after (codes "FIELD ") b)
  where
    by_field : Option (List ℕ) → Option (Item × List ℕ)
    by_field (Some rest) = field_at rest
    by_field None = plain_item (before is_stop b) >>= λ one. Some (one, from is_stop b)

-- so many items at most
abbrev pub item_limit : ℕ
item_limit = 8

-- FETCH behind its word
unfoldable pub fetch_of : Bool → List ℕ → Option Command
fetch_of by_uid b = do
  set ← set_of (before is_stop b)
  rest ← after (codes " (") (from is_stop b)
  items ← several item_at item_limit rest
  behind ← after (codes ")") items.1
  ended behind (command.Fetch by_uid set items.0)

-- ---- STORE

-- UNCHANGEDSINCE, where it stands
unfoldable pub modifier_at : List ℕ → Option (Option ℕ × List ℕ)
modifier_at b = by_word (after (codes "(UNCHANGEDSINCE ") b)
  where
    by_word : Option (List ℕ) → Option (Option ℕ × List ℕ)
    by_word None = Some (None, b)
    by_word (Some rest) = do
      n ← number_of (suc last_modseq) (before is_stop rest)
      behind ← after (codes ") ") (from is_stop rest)
      Some (Some n, behind)

-- what is done with the flags that follow
unfoldable pub how_at : List ℕ → Option (How × List ℕ)
how_at b = by_add (after (codes "+FLAGS ") b)
  where
    by_remove : Option (List ℕ) → Option (How × List ℕ)
    by_remove (Some rest) = Some (Remove, rest)
    by_remove None = after (codes "FLAGS ") b >>= λ rest. Some (Replace, rest)

    by_add : Option (List ℕ) → Option (How × List ℕ)
    by_add (Some rest) = Some (Add, rest)
    by_add None = by_remove (after (codes "-FLAGS ") b)

-- STORE behind its word
unfoldable pub store_of : Bool → List ℕ → Option Command
store_of by_uid b = do
  set ← set_of (before is_stop b)
  rest ← after (codes " ") (from is_stop b)
  since ← modifier_at rest
  how ← how_at since.1
  flags ← flags_of how.1
  Some (command.Store by_uid set how.0 flags.0 flags.1 since.0)

-- ---- SEARCH

-- a system flag's key, as the flag's bit
abbrev pub key_flag : List ℕ → Option ℕ
key_flag word =
    if bytes_eq word (codes "ANSWERED") then Some 1
    else (if bytes_eq word (codes "FLAGGED") then Some 2
    else (if bytes_eq word (codes "DELETED") then Some 4
    else (if bytes_eq word (codes "SEEN") then Some 8
    else (if bytes_eq word (codes "DRAFT") then Some 16 else None))))

-- the key of a word by itself
unfoldable pub plain_key : List ℕ → Option Key
plain_key word = if bytes_eq word (codes "ALL") then Some key.All else by_lack (after (codes "UN") word)
  where
    by_lack : Option (List ℕ) → Option Key
    by_lack (Some flag) = key_flag flag >>= λ bit. Some (key.Lacks bit)
    by_lack None = key_flag word >>= λ bit. Some (key.Has bit)

-- the values of KEYWORD, UID and LARGER
abbrev pub keyword_key : List ℕ → Option Key
keyword_key word = if is_name word then Some (key.Keyword word) else None

abbrev pub uid_key : List ℕ → Option Key
uid_key word = set_of word >>= λ set. Some (key.Uid set)

abbrev pub larger_key : List ℕ → Option Key
larger_key word = number_of (2 ^ 32) word >>= λ n. Some (key.Larger n)

-- a key by its value, which is a word
abbrev pub at_word : (List ℕ → Option Key) → List ℕ → Option (Key × List ℕ)
at_word read b = read (before is_stop b) >>= λ k. Some (k, from is_stop b)

-- a key of a word and its value
unfoldable pub valued_key : List ℕ → Option (Key × List ℕ)
valued_key b = by_keyword (after (codes "KEYWORD ") b)
  where
    by_larger : Option (List ℕ) → Option (Key × List ℕ)
    by_larger (Some rest) = at_word larger_key rest
    by_larger None = None

    by_uid : Option (List ℕ) → Option (Key × List ℕ)
    by_uid (Some rest) = at_word uid_key rest
    by_uid None = by_larger (after (codes "LARGER ") b)

    by_keyword : Option (List ℕ) → Option (Key × List ℕ)
    by_keyword (Some rest) = at_word keyword_key rest
    by_keyword None = by_uid (after (codes "UID ") b)

-- a key that has none inside, but HEADER
unfoldable pub word_key : List ℕ → Option (Key × List ℕ)
word_key b = by_plain (plain_key (before is_stop b))
  where
    by_plain : Option Key → Option (Key × List ℕ)
    by_plain (Some k) = Some (k, from is_stop b)
    by_plain None = valued_key b

-- HEADER behind its word: a field's name, and a text in quotes
unfoldable pub header_key : List ℕ → Option (Key × List ℕ)
header_key b = do
  name ← (if is_field_name (before is_stop b) then Some (before is_stop b) else None)
  rest ← after (codes " \"") (from is_stop b)
  text ← (if list_all is_quotable (before (is_byte 34) rest) then Some (before (is_byte 34) rest) else None)
  behind ← after (codes "\"") (from (is_byte 34) rest)
  Some (key.Header name text, behind)

-- one key stands for itself, and several must all be met
abbrev pub one_of : List Key → Key
one_of (k ∷ []) = k
one_of keys = key.And keys

-- a key, whose inner keys are read so
unfoldable pub key_layer : (List ℕ → Option (Key × List ℕ)) → List ℕ → Option (Key × List ℕ)
key_layer inner b = by_parenthesis (after (codes "(") b)
  where
    by_header : Option (List ℕ) → Option (Key × List ℕ)
    by_header (Some rest) = header_key rest
    by_header None = word_key b

    by_or : Option (List ℕ) → Option (Key × List ℕ)
    by_or (Some rest) = do
      one ← inner rest
      second ← after (codes " ") one.1
      other ← inner second
      Some (key.Or one.0 other.0, other.1)
    by_or None = by_header (after (codes "HEADER ") b)

    by_not : Option (List ℕ) → Option (Key × List ℕ)
    by_not (Some rest) = inner rest >>= λ inside. Some (key.Not inside.0, inside.1)
    by_not None = by_or (after (codes "OR ") b)

    by_parenthesis : Option (List ℕ) → Option (Key × List ℕ)
    by_parenthesis (Some rest) = do
      keys ← several inner (length rest) rest
      behind ← after (codes ")") keys.1
      Some (one_of keys.0, behind)
    by_parenthesis None = by_not (after (codes "NOT ") b)

-- a key that nests in at most so many levels: one with none inside has one, and NOT, OR and each pair
-- of parentheses add one
unfoldable pub key_at : ℕ → List ℕ → Option (Key × List ℕ)
key_at zero b = None
key_at (suc levels) b = key_layer (key_at levels) b

-- SEARCH behind its word
unfoldable pub search_of : Bool → List ℕ → Option Command
search_of by_uid b = do
  keys ← several (key_at key_levels) (length b) b
  ended keys.1 (command.Search by_uid (one_of keys.0))

-- ---- commands

-- a command that names messages
unfoldable pub set_command : Bool → List ℕ → Option Command
set_command by_uid b = by_fetch (after (codes "FETCH ") b)
  where
    by_search : Option (List ℕ) → Option Command
    by_search (Some rest) = search_of by_uid rest
    by_search None = None

    by_store : Option (List ℕ) → Option Command
    by_store (Some rest) = store_of by_uid rest
    by_store None = by_search (after (codes "SEARCH ") b)

    by_fetch : Option (List ℕ) → Option Command
    by_fetch (Some rest) = fetch_of by_uid rest
    by_fetch None = by_store (after (codes "STORE ") b)

-- one that goes by UIDs, behind that word
unfoldable pub uid_command : List ℕ → Option Command
uid_command b = by_remove (after (codes "REMOVE ") b)
  where
    by_remove : Option (List ℕ) → Option Command
    by_remove (Some rest) = set_of rest >>= λ set. Some (command.UidRemove set)
    by_remove None = set_command true b

-- a command of one word
abbrev pub plain_command : List ℕ → Option Command
plain_command b =
    if bytes_eq b (codes "SELECT") then Some command.Select
    else (if bytes_eq b (codes "NOOP") then Some command.Noop
    else (if bytes_eq b (codes "CHECK") then Some command.Check
    else (if bytes_eq b (codes "EXPUNGE") then Some command.Expunge else None)))

-- a command that stands on one line
unfoldable pub command_of : List ℕ → Option Command
command_of b = by_plain (plain_command b)
  where
    by_uid : Option (List ℕ) → Option Command
    by_uid (Some rest) = uid_command rest
    by_uid None = set_command false b

    by_plain : Option Command → Option Command
    by_plain (Some command) = Some command
    by_plain None = by_uid (after (codes "UID ") b)

-- a list up to its closing parenthesis, and what stands behind that
abbrev pub list_at : List ℕ → Option (List ℕ × List ℕ)
list_at b = by_place (position (is_byte 41) b)
  where
    by_place : Option ℕ → Option (List ℕ × List ℕ)
    by_place None = None
    by_place (Some at) = Some (take (at + 1) b, drop (at + 1) b)

-- APPEND behind its word: its flags and keywords, and the number of bytes that follow the line
-- (RFC 3501, section 4.3, literals)
unfoldable pub append_of : List ℕ → Option ((ℕ × List (List ℕ)) × ℕ)
append_of b = do
  list ← list_at b
  flags ← flags_of list.0
  rest ← after (codes " {") list.1
  digits ← ahead_of (codes "}") rest
  size ← number_of (2 ^ 32) digits
  Some (flags, size)

-- ---- lines

-- the session's name and a space begin a line
abbrev pub session_at : List ℕ → Option (List ℕ × List ℕ)
session_at text =
    if is_session_name (before (is_byte 32) text)
    then (after (codes " ") (from (is_byte 32) text) >>= λ rest. Some (before (is_byte 32) text, rest))
    else None

-- the sessions so far and this one, of which there are at most 64
abbrev pub with_session : List (List ℕ) → List ℕ → Option (List (List ℕ))
with_session names name =
    if list_any (bytes_eq name) names then Some names
    else (if nat_lt (length names) session_limit then Some (names ++ name ∷ []) else None)

-- an empty line or a comment
abbrev pub is_skipped : List ℕ → Bool
is_skipped [] = true
is_skipped (b ∷ text) = nat_eq b 35

-- a line that isn't of the form, and a literal that has fewer bytes than its number says
pub data LineFault : Type 0 where
  bad : LineFault
  short : LineFault

-- a line's command, where it has one, the sessions so far, and what stands behind the line
abbrev pub TakenLine : Type 0
TakenLine = Option NamedLine × List (List ℕ) × List ℕ

-- a line end, or the script's end
abbrev pub behind_line_end : List ℕ → Option (List ℕ)
behind_line_end [] = Some []
behind_line_end (b ∷ bs) = by_feed (after (codes "\n") (b ∷ bs))
  where
    by_feed : Option (List ℕ) → Option (List ℕ)
    by_feed (Some rest) = Some rest
    by_feed None = after (codes "\r\n") (b ∷ bs)

-- so many bytes of what stands behind the line are the message, and then the line ends
unfoldable pub literal_at : List ℕ → List (List ℕ) → (ℕ × List (List ℕ)) × ℕ → List ℕ → Result TakenLine LineFault
literal_at name names start b =
    if nat_lt (length b) start.1 then Err short else by_end (behind_line_end (drop start.1 b))
  where
    by_end : Option (List ℕ) → Result TakenLine LineFault
    by_end None = Err bad
    by_end (Some rest) =
        Ok (Some (name, command.Append start.0.0 start.0.1 (take start.1 b)), names, rest)

-- what a session's command says, and what stands behind its line
unfoldable pub command_at : List ℕ → List (List ℕ) → List ℕ → List ℕ → Result TakenLine LineFault
command_at name names text b = by_append (after (codes "APPEND ") text)
  where
    by_command : Option Command → Result TakenLine LineFault
    by_command None = Err bad
    by_command (Some command) = Ok (Some (name, command), names, b)

    by_start : Option ((ℕ × List (List ℕ)) × ℕ) → Result TakenLine LineFault
    by_start None = Err bad
    by_start (Some start) = literal_at name names start b

    by_append : Option (List ℕ) → Result TakenLine LineFault
    by_append None = by_command (command_of text)
    by_append (Some rest) = by_start (append_of rest)

-- a line without its end, behind which these bytes stand
unfoldable pub line_at : List (List ℕ) → List ℕ → List ℕ → Result TakenLine LineFault
line_at names text b =
    if nat_lt line_limit (length text) then Err bad
    else (if is_skipped text then Ok (None, names, b) else by_session (session_at text))
  where
    by_names : List ℕ × List ℕ → Option (List (List ℕ)) → Result TakenLine LineFault
    by_names session None = Err bad
    by_names session (Some all) = command_at session.0 all session.1 b

    by_session : Option (List ℕ × List ℕ) → Result TakenLine LineFault
    by_session None = Err bad
    by_session (Some session) = by_names session (with_session names session.0)

-- ---- scripts

-- why a script isn't read: a fault of the line of this number, or too many bytes
pub data ScriptFault : Type 0 where
  BadLine : ℕ → ScriptFault
  ShortLiteral : ℕ → ScriptFault
  TooLong : ScriptFault

-- a line's fault, by the line's number
abbrev pub fault_at : ℕ → LineFault → ScriptFault
fault_at k LineFault.bad = ScriptFault.BadLine k
fault_at k LineFault.short = ScriptFault.ShortLiteral k

-- the first line without its end, and what stands behind that: a carriage return before a line feed
-- is part of the line end
abbrev pub first_line : List ℕ → List ℕ × List ℕ
first_line b = by_feed (after (codes "\n") (from (is_byte 10) b))
  where
    by_feed : Option (List ℕ) → List ℕ × List ℕ
    by_feed None = (b, [])
    by_feed (Some rest) = (strip_carriage_return (before (is_byte 10) b), rest)

-- the line feeds before what is left of these bytes
abbrev pub feeds_before : List ℕ → List ℕ → ℕ
feeds_before b rest = count_by (is_byte 10) (take (length b - length rest) b)

-- the command of a line, where it has one
abbrev pub as_list : {A : Type 0} → Option A → List A
as_list None = []
as_list (Some x) = x ∷ []

-- the line numbered k was taken, or is the first with a fault
abbrev pub behind_line : ℕ → Result TakenLine LineFault → (TakenLine → Result (List NamedLine) ScriptFault) → Result (List NamedLine) ScriptFault
behind_line k (Err fault) others = Err (fault_at k fault)
behind_line k (Ok taken) others = others taken

-- the lines from the one numbered k on, behind these lines of these sessions; each has a byte at
-- least, so that there are no more lines than bytes
unfoldable pub lines_at : ℕ → ℕ → List NamedLine → List (List ℕ) → List ℕ → Result (List NamedLine) ScriptFault
lines_at most k lines names [] = Ok lines
lines_at zero k lines names (b ∷ bs) = Ok lines
lines_at (suc most) k lines names (b ∷ bs) =
    let line = first_line (b ∷ bs) in
    behind_line k (line_at names line.0 line.1) (λ taken. lines_at most (k + feeds_before (b ∷ bs) taken.2) (lines ++ as_list taken.0) taken.1 taken.2)

-- the commands of a script, or its first fault
unfoldable pub parsed : List ℕ → Result (List NamedLine) ScriptFault
parsed script =
    if nat_lt script_limit (length script) then Err ScriptFault.TooLong
    else lines_at (length script) 1 [] [] script
