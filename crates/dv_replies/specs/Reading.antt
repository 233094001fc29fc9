-- What a reply says, as a function of its bytes. A reader takes the front that is of its form, and
-- gives what that says and the bytes behind it; None where no front is (RFC 3501, section 7).
use Rattle.std.specs.Prelude.{ℕ, zero, suc, ◌-◌, ◌^◌, Bool, ◌&&◌, ◌||◌, List, [], ◌∷◌, ◌++◌, length, take, drop, Option, Some, None, codes, nat_lt, nat_eq, bit_or, bytes_eq, if◌then◌else◌}
use Rattle.dv_model.specs.declared.types.Mark.{Mark}
use Rattle.dv_model.specs.declared.types.Reply.{Reply}
use Rattle.dv_model.specs.declared.types.Reply.TheVariants as reply
use Rattle.dv_model.specs.declared.types.Value.{Value}
use Rattle.dv_model.specs.declared.types.Value.TheVariants as value
use Rattle.dv_model.specs.declared.types.Word.{Word}
use Rattle.dv_model.specs.declared.types.Word.TheVariants as word
use Rattle.dv_formats.specs.Parsing.{◌>>=◌, after, before, from, is_byte, is_field_name, is_name, is_stop, number_of, session_at}
use Rattle.dv_formats.specs.Scripts.{flag_bit}

-- ---- readers

-- where a text was found, what is read behind it; else another reading
abbrev pub behind_else : {A : Type 0} → Option (List ℕ) → (List ℕ → Option A) → Option A → Option A
behind_else (Some rest) read other = read rest
behind_else None read other = other

-- these, and all that a separator stands before, at fewer places than so many
unfoldable pub each_behind : {A : Type 0} → List ℕ → (List ℕ → Option (A × List ℕ)) → ℕ → List A → List ℕ → Option (List A × List ℕ)
each_behind separator read zero so_far b = None
each_behind separator read (suc most) so_far b = behind_else (after separator b)
    (λ rest. read rest >>= λ next. each_behind separator read most (so_far ++ next.0 ∷ []) next.1)
    (Some (so_far, b))

-- ---- numbers and marks

abbrev pub is_no_digit : ℕ → Bool
is_no_digit n = nat_lt n 48 || nat_lt 57 n

-- a number below this one, which ends before the first byte that is no digit
unfoldable pub number_at : ℕ → List ℕ → Option (ℕ × List ℕ)
number_at limit b = number_of limit (before is_no_digit b) >>= λ n. Some (n, from is_no_digit b)

-- a number of 32 bits, and one of 64
abbrev pub word_at : List ℕ → Option (ℕ × List ℕ)
word_at b = number_at (2 ^ 32) b

abbrev pub wide_at : List ℕ → Option (ℕ × List ℕ)
wide_at b = number_at (2 ^ 64) b

-- a place of the log
unfoldable pub mark_at : List ℕ → Option (Mark × List ℕ)
mark_at b = do
  first ← after (codes "MARK ") b
  file ← word_at first
  second ← after (codes ":") file.1
  offset ← word_at second
  Some (record { file_seq = file.0; offset = offset.0 }, offset.1)

-- ---- values

-- a keyword comes behind the flags and keywords
abbrev pub keyword_behind : ℕ × List (List ℕ) → List ℕ → Option (ℕ × List (List ℕ))
keyword_behind so_far word =
    if is_name word then Some (so_far.0, so_far.1 ++ word ∷ []) else None

-- a word of a flag list, behind these flags and keywords: the system flags rise by their bits, and
-- keywords come behind them
abbrev pub flag_behind : ℕ × List (List ℕ) → List ℕ → Option (ℕ × List (List ℕ))
flag_behind so_far word = by_bit (flag_bit word)
  where
    by_bit : Option ℕ → Option (ℕ × List (List ℕ))
    by_bit (Some bit) =
        if nat_lt so_far.0 bit && nat_eq (length so_far.1) 0 then Some (bit_or so_far.0 bit, so_far.1)
        else None
    by_bit None = keyword_behind so_far word

-- such words with a space between two, at most so many
unfoldable pub flags_at : ℕ → ℕ × List (List ℕ) → List ℕ → Option ((ℕ × List (List ℕ)) × List ℕ)
flags_at zero so_far b = None
flags_at (suc most) so_far b =
    flag_behind so_far (before is_stop b) >>= λ more. behind_else (after (codes " ") (from is_stop b)) (λ rest. flags_at most more rest)
    (Some (more, from is_stop b))

-- flags and keywords up to the closing parenthesis
unfoldable pub flag_list_at : List ℕ → Option (Value × List ℕ)
flag_list_at b = behind_else (after (codes ")") b) (λ rest. Some (value.Flags 0 [], rest)) (do
  list ← flags_at (length b) (0, []) b
  rest ← after (codes ")") list.1
  Some (value.Flags list.0.0 list.0.1, rest))

-- bytes behind their number and a line feed
unfoldable pub literal_at : List ℕ → Option (List ℕ × List ℕ)
literal_at b = do
  digits ← after (codes "{") b
  size ← wide_at digits
  rest ← after (codes "}\n") size.1
  if nat_lt (length rest) size.0 then None else Some (take size.0 rest, drop size.0 rest)

-- a field's name, and its value where the message has the field
unfoldable pub field_value_at : List ℕ → Option (Value × List ℕ)
field_value_at b = do
  name ← (if is_field_name (before is_stop b) then Some (before is_stop b) else None)
  behind_else (after (codes " NIL") (from is_stop b)) (λ rest. Some (value.Field name None, rest)) (do
    rest ← after (codes " ") (from is_stop b)
    bytes ← literal_at rest
    Some (value.Field name (Some bytes.0), bytes.1))

unfoldable pub size_at : List ℕ → Option (Value × List ℕ)
size_at b = wide_at b >>= λ n. Some (value.Size n.0, n.1)

unfoldable pub body_at : List ℕ → Option (Value × List ℕ)
body_at b = literal_at b >>= λ bytes. Some (value.Body bytes.0, bytes.1)

unfoldable pub modseq_at : List ℕ → Option (Value × List ℕ)
modseq_at b = do
  n ← wide_at b
  rest ← after (codes ")") n.1
  Some (value.Modseq n.0, rest)

-- a value of a FETCH with its name
unfoldable pub value_at : List ℕ → Option (Value × List ℕ)
value_at b = behind_else (after (codes "FLAGS (") b) flag_list_at
    (behind_else (after (codes "RFC822.SIZE ") b) size_at
    (behind_else (after (codes "BODY[] ") b) body_at
    (behind_else (after (codes "FIELD ") b) field_value_at
    (behind_else (after (codes "MODSEQ (") b) modseq_at None))))

-- ---- untagged replies

-- numbers with a space before each
unfoldable pub search_at : List ℕ → Option (Reply × List ℕ)
search_at b = each_behind (codes " ") word_at (length b) [] b >>= λ ns. Some (reply.Search ns.0, ns.1)

-- a number before its bracket
unfoldable pub bracketed_at : List ℕ → Option (ℕ × List ℕ)
bracketed_at b = do
  n ← word_at b
  rest ← after (codes "]") n.1
  Some (n.0, rest)

-- FETCH of this message, behind the word UID
unfoldable pub fetch_at : ℕ → List ℕ → Option (Reply × List ℕ)
fetch_at n b = do
  uid ← word_at b
  values ← each_behind (codes " ") value_at (length uid.1) [] uid.1
  rest ← after (codes ")") values.1
  Some (reply.Fetch n uid.0 values.0, rest)

-- a reply that begins with a number
unfoldable pub numbered_at : List ℕ → Option (Reply × List ℕ)
numbered_at b = do
  n ← word_at b
  behind_else (after (codes " EXISTS") n.1) (λ rest. Some (reply.Exists n.0, rest))
      (behind_else (after (codes " EXPUNGE") n.1) (λ rest. Some (reply.Expunge n.0, rest))
      (behind_else (after (codes " FETCH (UID ") n.1) (fetch_at n.0) None))

unfoldable pub untagged_at : List ℕ → Option (Reply × List ℕ)
untagged_at b = behind_else (after (codes "SEARCH") b) search_at
    (behind_else (after (codes "OK [UIDVALIDITY ") b) (λ rest. bracketed_at rest >>= λ n. Some (reply.Validity n.0, n.1))
    (behind_else (after (codes "OK [UIDNEXT ") b) (λ rest. bracketed_at rest >>= λ n. Some (reply.NextUid n.0, n.1))
    (numbered_at b)))

-- ---- the last line of a command

-- the command of a name
abbrev pub word_of : List ℕ → Option Word
word_of b =
    if bytes_eq b (codes "SELECT") then Some word.Select
    else (if bytes_eq b (codes "NOOP") then Some word.Noop
    else (if bytes_eq b (codes "CHECK") then Some word.Check
    else (if bytes_eq b (codes "APPEND") then Some word.Append
    else (if bytes_eq b (codes "EXPUNGE") then Some word.Expunge
    else (if bytes_eq b (codes "FETCH") then Some word.Fetch
    else (if bytes_eq b (codes "STORE") then Some word.Store
    else (if bytes_eq b (codes "SEARCH") then Some word.Search
    else (if bytes_eq b (codes "UID FETCH") then Some word.UidFetch
    else (if bytes_eq b (codes "UID STORE") then Some word.UidStore
    else (if bytes_eq b (codes "UID SEARCH") then Some word.UidSearch
    else (if bytes_eq b (codes "UID REMOVE") then Some word.UidRemove else None)))))))))))

-- up to the line feed
abbrev pub name_at : List ℕ → Option (Word × List ℕ)
name_at b = word_of (before (is_byte 10) b) >>= λ w. Some (w, from (is_byte 10) b)

-- UIDVALIDITY and UID of an appended message, where they are said
unfoldable pub given_at : List ℕ → Option (Option (ℕ × ℕ) × List ℕ)
given_at b = behind_else (after (codes "[APPENDUID ") b) (λ first. do
  validity ← word_at first
  second ← after (codes " ") validity.1
  uid ← word_at second
  rest ← after (codes "] ") uid.1
  Some (Some (validity.0, uid.0), rest)) (Some (None, b))

-- the messages that UNCHANGEDSINCE kept, where there are some
unfoldable pub modified_at : List ℕ → Option (List ℕ × List ℕ)
modified_at b = behind_else (after (codes "[MODIFIED ") b) (λ start. do
  first ← word_at start
  all ← each_behind (codes ",") word_at (length first.1) (first.0 ∷ []) first.1
  rest ← after (codes "] ") all.1
  Some (all.0, rest)) (Some ([], b))

unfoldable pub done_at : List ℕ → Option (Reply × List ℕ)
done_at b = do
  given ← given_at b
  modified ← modified_at given.1
  start ← after (codes "[") modified.1
  mark ← mark_at start
  name ← after (codes "] ") mark.1
  w ← name_at name
  Some (reply.Done w.0 mark.0 given.0 modified.0, w.1)

-- UID and mark
unfoldable pub message_at : List ℕ → Option ((ℕ × Mark) × List ℕ)
message_at b = do
  start ← after (codes "UID ") b
  uid ← word_at start
  place ← after (codes " ") uid.1
  mark ← mark_at place
  Some ((uid.0, mark.0), mark.1)

unfoldable pub gone_at : List ℕ → Option (Reply × List ℕ)
gone_at b = do
  modified ← modified_at b
  message ← message_at modified.1
  Some (reply.Gone message.0.0 message.0.1 modified.0, message.1)

unfoldable pub refused_at : List ℕ → Option (Reply × List ℕ)
refused_at b = behind_else (after (codes "[EXPUNGEISSUED] ") b) gone_at
    (behind_else (after (codes "[CORRUPTION] ") b) (λ rest. message_at rest >>= λ m. Some (reply.Damaged m.0.0 m.0.1, m.1))
    (behind_else (after (codes "[UNAVAILABLE] FAULTS ") b) (λ rest. wide_at rest >>= λ n. Some (reply.Unavailable n.0, n.1))
    (behind_else (after (codes "[LIMIT] UIDS") b) (λ rest. Some (reply.UidsUsedUp, rest))
    (behind_else (after (codes "[LIMIT] BYTES ") b) (λ rest. wide_at rest >>= λ n. Some (reply.TooLong n.0, n.1)) None))))

unfoldable pub bad_at : List ℕ → Option (Reply × List ℕ)
bad_at b = behind_else (after (codes "NOT SELECTED") b) (λ rest. Some (reply.NotSelected, rest))
    (behind_else (after (codes "NO MESSAGE ") b) (λ rest. word_at rest >>= λ n. Some (reply.NoMessage n.0, n.1)) None)

-- ---- replies

unfoldable pub reply_at : List ℕ → Option (Reply × List ℕ)
reply_at b = behind_else (after (codes "* ") b) untagged_at
    (behind_else (after (codes "OK ") b) done_at
    (behind_else (after (codes "NO ") b) refused_at
    (behind_else (after (codes "BAD ") b) bad_at None)))

-- a session's name, a space, a reply and a line feed
unfoldable pub line_at : List ℕ → Option (List ℕ × Reply × List ℕ)
line_at b = do
  session ← session_at b
  r ← reply_at session.1
  rest ← after (codes "\n") r.1
  Some (session.0, r.0, rest)

-- the same with the number of its bytes
abbrev pub reply_of : List ℕ → Option (List ℕ × Reply × ℕ)
reply_of b = line_at b >>= λ x. Some (x.0, x.1, length b - length x.2)
