-- The text of a reply (RFC 3501, section 7; response codes of RFC 4315, RFC 5530 and RFC 7162).
use Rattle.std.specs.Prelude.{ℕ, List, [], ◌∷◌, ◌++◌, length, map, Option, Some, None, codes, decimal, nat_eq, if◌then◌else◌, bit_and}
use Rattle.dv_model.specs.declared.types.Mark.{Mark}
use Rattle.dv_model.specs.declared.types.Reply.{Reply}
use Rattle.dv_model.specs.declared.types.Reply.TheVariants as reply
use Rattle.dv_model.specs.declared.types.Value.{Value}
use Rattle.dv_model.specs.declared.types.Value.TheVariants as value
use Rattle.dv_model.specs.declared.types.Word.{Word}
use Rattle.dv_model.specs.declared.types.Word.TheVariants as word

-- ---- replies

-- the words, with a space between two
abbrev pub spaced : List (List ℕ) → List ℕ
spaced [] = []
spaced (w ∷ []) = w
spaced (w ∷ ws) = w ++ 32 ∷ spaced ws

-- the flag's name where its bit is set
abbrev pub flag_when : ℕ → ℕ → List ℕ → List (List ℕ)
flag_when flags bit name = if nat_eq (bit_and flags bit) 0 then [] else name ∷ []

-- the system flags in the order of their bits (RFC 3501, section 2.3.2)
abbrev pub flag_words : ℕ → List (List ℕ)
flag_words flags =
    flag_when flags 1 (codes "\\Answered") ++ flag_when flags 2 (codes "\\Flagged") ++ flag_when flags 4 (codes "\\Deleted") ++ flag_when flags 8 (codes "\\Seen") ++ flag_when flags 16 (codes "\\Draft")

-- bytes behind their number and a line feed
abbrev pub literal : List ℕ → List ℕ
literal bytes = codes "{" ++ decimal (length bytes) ++ codes "}" ++ 10 ∷ bytes

-- a value of a FETCH with its name (RFC 3501, section 7.4.2; MODSEQ of RFC 7162, section 3.1.5)
abbrev pub value_text : Value → List ℕ
value_text (value.Flags flags keywords) = codes "FLAGS (" ++ spaced (flag_words flags ++ keywords) ++ codes ")"
value_text (value.Size n) = codes "RFC822.SIZE " ++ decimal n
value_text (value.Body bytes) = codes "BODY[] " ++ literal bytes
value_text (value.Field name (Some bytes)) = codes "FIELD " ++ name ++ codes " " ++ literal bytes
value_text (value.Field name None) = codes "FIELD " ++ name ++ codes " NIL"
value_text (value.Modseq n) = codes "MODSEQ (" ++ decimal n ++ codes ")"

-- a place of the log: the file's sequence number and the offset
abbrev pub mark_text : Mark → List ℕ
mark_text mark = codes "MARK " ++ decimal mark.file_seq ++ codes ":" ++ decimal mark.offset

-- the name of a command
abbrev pub word_text : Word → List ℕ
word_text word.Select = codes "SELECT"
word_text word.Noop = codes "NOOP"
word_text word.Check = codes "CHECK"
word_text word.Append = codes "APPEND"
word_text word.Expunge = codes "EXPUNGE"
word_text word.Fetch = codes "FETCH"
word_text word.Store = codes "STORE"
word_text word.Search = codes "SEARCH"
word_text word.UidFetch = codes "UID FETCH"
word_text word.UidStore = codes "UID STORE"
word_text word.UidSearch = codes "UID SEARCH"
word_text word.UidRemove = codes "UID REMOVE"

-- APPENDUID with UIDVALIDITY and UID (RFC 4315, section 3)
abbrev pub given_text : Option (ℕ × ℕ) → List ℕ
given_text None = []
given_text (Some given) = codes "[APPENDUID " ++ decimal given.0 ++ codes " " ++ decimal given.1 ++ codes "] "

-- numbers, with a comma between two
abbrev pub with_commas : List ℕ → List ℕ
with_commas [] = []
with_commas (n ∷ []) = decimal n
with_commas (n ∷ ns) = decimal n ++ codes "," ++ with_commas ns

-- the messages that UNCHANGEDSINCE kept (RFC 7162, section 3.1.3)
abbrev pub modified_text : List ℕ → List ℕ
modified_text [] = []
modified_text ns = codes "[MODIFIED " ++ with_commas ns ++ codes "] "

-- a reply without its session and its line end
abbrev pub reply_text : Reply → List ℕ
reply_text (reply.Exists n) = codes "* " ++ decimal n ++ codes " EXISTS"
reply_text (reply.Expunge n) = codes "* " ++ decimal n ++ codes " EXPUNGE"
reply_text (reply.Fetch n uid values) = codes "* " ++ decimal n ++ codes " FETCH (" ++ spaced ((codes "UID " ++ decimal uid) ∷ map value_text values) ++ codes ")"
reply_text (reply.Search ns) = spaced (codes "* SEARCH" ∷ map decimal ns)
reply_text (reply.Validity n) = codes "* OK [UIDVALIDITY " ++ decimal n ++ codes "]"
reply_text (reply.NextUid n) = codes "* OK [UIDNEXT " ++ decimal n ++ codes "]"
reply_text (reply.Done w mark given modified) = codes "OK " ++ given_text given ++ modified_text modified ++ codes "[" ++ mark_text mark ++ codes "] " ++ word_text w
reply_text (reply.Gone uid mark modified) = codes "NO [EXPUNGEISSUED] " ++ modified_text modified ++ codes "UID " ++ decimal uid ++ codes " " ++ mark_text mark
reply_text (reply.Damaged uid mark) = codes "NO [CORRUPTION] UID " ++ decimal uid ++ codes " " ++ mark_text mark
reply_text (reply.Unavailable n) = codes "NO [UNAVAILABLE] FAULTS " ++ decimal n
reply_text reply.UidsUsedUp = codes "NO [LIMIT] UIDS"
reply_text (reply.TooLong n) = codes "NO [LIMIT] BYTES " ++ decimal n
reply_text reply.NotSelected = codes "BAD NOT SELECTED"
reply_text (reply.NoMessage n) = codes "BAD NO MESSAGE " ++ decimal n

-- the session's name, a space, the reply and a line feed
abbrev pub line_text : List ℕ → Reply → List ℕ
line_text session r = session ++ 32 ∷ reply_text r ++ 10 ∷ []
