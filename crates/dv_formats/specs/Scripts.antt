-- The text of a script: lines, each with a session's name and a command in the words of RFC 3501,
-- section 9.
use Rattle.std.specs.Prelude.{◌≡◌, ◌⊎◌, ℕ, suc, ◌+◌, ◌^◌, ◌<◌, ◌≤◌, Bool, true, false, ◌&&◌, ◌||◌, cond, List, [], ◌∷◌, ◌++◌, length, fold, flat_map, count_by, All, Contains, Option, Some, None, codes, decimal, nat_eq, nat_le, bytes_eq, bit_or, if◌then◌else◌}
use Rattle.std.specs.List.{list_any, AllZip}
use Rattle.dv_model.specs.declared.types.Command.{Command}
use Rattle.dv_model.specs.declared.types.Command.TheVariants as command
use Rattle.dv_model.specs.declared.types.End.{End}
use Rattle.dv_model.specs.declared.types.End.TheVariants.{Number, Star}
use Rattle.dv_model.specs.declared.types.How.{How}
use Rattle.dv_model.specs.declared.types.How.TheVariants.{Add, Remove, Replace}
use Rattle.dv_model.specs.declared.types.Item.{Item}
use Rattle.dv_model.specs.declared.types.Item.TheVariants as item
use Rattle.dv_model.specs.declared.types.Key.{Key, out-Key}
use Rattle.dv_model.specs.declared.types.Key.TheOpen.{Key-F}
use Rattle.dv_model.specs.declared.types.Span.{Span}
use Rattle.dv_model.specs.Mailboxes.{last_modseq}
use Rattle.dv_model.specs.Names.{IsName}
use Rattle.dv_model.specs.Texts.{spaced}

-- ---- sets

-- seq-number: a number from 1, or `*`
abbrev pub IsEnd : End → List ℕ → Type 0
IsEnd (Number n) b = (1 ≤ n) × (n < 2 ^ 32) × (b ≡ decimal n)
IsEnd Star b = b ≡ codes "*"

-- seq-range: two ends with a colon; one number stands for itself
pub record IsWide (span : Span) (b : List ℕ) : Type 0 where
  pub from : List ℕ
  pub to : List ℕ
  pub ends : IsEnd span.from from × IsEnd span.to to
  pub text : b ≡ from ++ codes ":" ++ to

-- a range in either spelling
abbrev pub IsSpan : Span → List ℕ → Type 0
IsSpan span b = IsWide span b ⊎ ((span.from ≡ span.to) × IsEnd span.from b)

-- the pieces with a separator between two
abbrev pub joined : List ℕ → List (List ℕ) → List ℕ
joined separator [] = []
joined separator (x ∷ []) = x
joined separator (x ∷ xs) = x ++ separator ++ joined separator xs

-- sequence-set: ranges with a comma between two
pub record IsSet (set : List Span) (b : List ℕ) : Type 0 where
  pub some : 1 ≤ length set
  pub spans : List (List ℕ)
  pub each : AllZip IsSpan set spans
  pub text : b ≡ joined (codes ",") spans

-- ---- flags

-- the system flags, in the order of their bits (RFC 3501, section 2.3.2)
abbrev pub flag_bit : List ℕ → Option ℕ
flag_bit word =
    if bytes_eq word (codes "\\Answered") then Some 1
    else (if bytes_eq word (codes "\\Flagged") then Some 2
    else (if bytes_eq word (codes "\\Deleted") then Some 4
    else (if bytes_eq word (codes "\\Seen") then Some 8
    else (if bytes_eq word (codes "\\Draft") then Some 16 else None))))

-- a system flag or a keyword (RFC 3501, section 9, flag)
abbrev pub IsFlag : List ℕ → Type 0
IsFlag word = ((n : ℕ) × (flag_bit word ≡ Some n)) ⊎ IsName word

-- a flag that is named again counts at its first place
abbrev pub with_flag : ℕ × List (List ℕ) → List ℕ → ℕ × List (List ℕ)
with_flag so_far word = by_kind (flag_bit word)
  where
    by_kind : Option ℕ → ℕ × List (List ℕ)
    by_kind (Some bit) = (bit_or so_far.0 bit, so_far.1)
    by_kind None =
        (so_far.0, if list_any (bytes_eq word) so_far.1 then so_far.1 else so_far.1 ++ word ∷ [])

-- flag-list: the flags in parentheses, with a space between two
pub record AreFlags (flags : ℕ) (keywords : List (List ℕ)) (b : List ℕ) : Type 0 where
  pub words : List (List ℕ)
  pub each : All IsFlag words
  pub named : fold with_flag (0, []) words ≡ (flags, keywords)
  pub text : b ≡ codes "(" ++ spaced words ++ codes ")"

-- ---- FETCH

-- a letter, a digit or a hyphen
abbrev pub is_field_byte : ℕ → Bool
is_field_byte n =
    (nat_le 48 n && nat_le n 57) || (nat_le 65 n && nat_le n 90) || (nat_le 97 n && nat_le n 122)
    || nat_eq n 45

-- 1 to 64 such bytes (RFC 5322, section 2.2)
pub record IsFieldName (name : List ℕ) : Type 0 where
  pub size : (1 ≤ length name) × (length name ≤ 64)
  pub bytes : All (λ n. is_field_byte n ≡ true) name

-- fetch-att: what a FETCH may ask for
abbrev pub IsItem : Item → List ℕ → Type 0
IsItem item.Flags b = b ≡ codes "FLAGS"
IsItem item.Size b = b ≡ codes "RFC822.SIZE"
IsItem item.Body b = b ≡ codes "BODY[]"
IsItem (item.Field name) b = IsFieldName name × (b ≡ codes "FIELD " ++ name)
IsItem item.Modseq b = b ≡ codes "MODSEQ"

-- one to eight items in parentheses
pub record AreItems (items : List Item) (b : List ℕ) : Type 0 where
  pub some : (1 ≤ length items) × (length items ≤ 8)
  pub words : List (List ℕ)
  pub each : AllZip IsItem items words
  pub text : b ≡ codes "(" ++ spaced words ++ codes ")"

-- ---- SEARCH

-- a system flag's key, of messages that have it and of those that lack it
abbrev pub flag_key : ℕ → Option (List ℕ)
flag_key n =
    if nat_eq n 1 then Some (codes "ANSWERED")
    else (if nat_eq n 2 then Some (codes "FLAGGED")
    else (if nat_eq n 4 then Some (codes "DELETED")
    else (if nat_eq n 8 then Some (codes "SEEN")
    else (if nat_eq n 16 then Some (codes "DRAFT") else None))))

-- a printable character but the quote and the backslash
abbrev pub is_quotable : ℕ → Bool
is_quotable n =
    nat_le 0x20 n && nat_le n 0x7e && cond (nat_eq n 0x22) false (cond (nat_eq n 0x5c) false true)

-- a text in quotes (RFC 3501, section 9, quoted)
abbrev pub IsQuoted : List ℕ → List ℕ → Type 0
IsQuoted text b = All (λ n. is_quotable n ≡ true) text × (b ≡ codes "\"" ++ text ++ codes "\"")

-- a key that has no key inside
abbrev pub IsWord : Key-F Key → List ℕ → Type 0
IsWord Key-F.All b = b ≡ codes "ALL"
IsWord (Key-F.Has n) b = (word : List ℕ) × (flag_key n ≡ Some word) × (b ≡ word)
IsWord (Key-F.Lacks n) b = (word : List ℕ) × (flag_key n ≡ Some word) × (b ≡ codes "UN" ++ word)
IsWord (Key-F.Keyword name) b = IsName name × (b ≡ codes "KEYWORD " ++ name)
IsWord (Key-F.Uid set) b = (text : List ℕ) × IsSet set text × (b ≡ codes "UID " ++ text)
IsWord (Key-F.Larger n) b = (n < 2 ^ 32) × (b ≡ codes "LARGER " ++ decimal n)
IsWord (Key-F.Header name text) b =
    IsFieldName name
    × ((quoted : List ℕ) × IsQuoted text quoted × (b ≡ codes "HEADER " ++ name ++ codes " " ++ quoted))
IsWord key b = ⊥

-- search-key, in at most so many levels: a key with none inside has one, and NOT, OR and each pair
-- of parentheses add one
mutual
  pub data IsKey : Key → ℕ → List ℕ → Type 0 where
    word : {key : Key} {levels : ℕ} {b : List ℕ} → IsWord (out-Key key) b → IsKey key (suc levels) b
    negated : {key inner : Key} {levels : ℕ} {b text : List ℕ} → out-Key key ≡ Key-F.Not inner
        → IsKey inner levels text → b ≡ codes "NOT " ++ text → IsKey key (suc levels) b
    either : {key one other : Key} {levels : ℕ} {b first second : List ℕ}
        → out-Key key ≡ Key-F.Or one other → IsKey one levels first → IsKey other levels second
        → b ≡ codes "OR " ++ first ++ codes " " ++ second → IsKey key (suc levels) b
    several : {key : Key} {keys : List Key} {levels : ℕ} {b : List ℕ} {texts : List (List ℕ)}
        → out-Key key ≡ Key-F.And keys → 2 ≤ length keys → AreKeys keys levels texts
        → b ≡ codes "(" ++ spaced texts ++ codes ")" → IsKey key (suc levels) b
    within : {key : Key} {levels : ℕ} {b text : List ℕ} → IsKey key levels text
        → b ≡ codes "(" ++ text ++ codes ")" → IsKey key (suc levels) b

  pub data AreKeys : List Key → ℕ → List (List ℕ) → Type 0 where
    none : {levels : ℕ} → AreKeys [] levels []
    more : {key : Key} {keys : List Key} {levels : ℕ} {text : List ℕ} {texts : List (List ℕ)}
        → IsKey key levels text → AreKeys keys levels texts
        → AreKeys (key ∷ keys) levels (text ∷ texts)

-- keys nest at most so deep
abbrev pub key_levels : ℕ
key_levels = 32

-- the keys of a SEARCH: one stands for itself, and several must all be met
abbrev pub AreSought : Key → List ℕ → Type 0
AreSought key b =
    IsKey key key_levels b
    ⊎ ((keys : List Key) × (texts : List (List ℕ)) × (out-Key key ≡ Key-F.And keys) × (2 ≤ length keys) × AreKeys keys key_levels texts × (b ≡ spaced texts))

-- ---- commands

-- the word of a STORE (RFC 3501, section 6.4.6)
abbrev pub how_text : How → List ℕ
how_text Add = codes "+FLAGS"
how_text Remove = codes "-FLAGS"
how_text Replace = codes "FLAGS"

-- store-modifier (RFC 7162, section 3.1.3)
abbrev pub IsModifier : Option ℕ → List ℕ → Type 0
IsModifier None b = b ≡ []
IsModifier (Some n) b =
    (n ≤ last_modseq) × (b ≡ codes "(UNCHANGEDSINCE " ++ decimal n ++ codes ") ")

-- a command that goes by UIDs begins with a word more (RFC 3501, section 6.4.8)
abbrev pub uid_text : Bool → List ℕ
uid_text true = codes "UID "
uid_text false = []

-- a line ends in a line feed, which a carriage return may precede
abbrev pub IsLineEnd : List ℕ → Type 0
IsLineEnd b = (b ≡ 10 ∷ []) ⊎ (b ≡ 13 ∷ 10 ∷ [])

-- FETCH and UID FETCH (RFC 3501, section 6.4.5)
pub record IsFetch (by_uid : Bool) (set : List Span) (items : List Item) (b : List ℕ) : Type 0 where
  pub set_text : List ℕ
  pub items_text : List ℕ
  pub named : IsSet set set_text
  pub asked : AreItems items items_text
  pub text : b ≡ uid_text by_uid ++ codes "FETCH " ++ set_text ++ codes " " ++ items_text

-- STORE and UID STORE (RFC 3501, section 6.4.6)
pub record IsStore (by_uid : Bool) (set : List Span) (how : How) (flags : ℕ) (keywords : List (List ℕ)) (since : Option ℕ) (b : List ℕ) : Type 0 where
  pub set_text : List ℕ
  pub modifier : List ℕ
  pub flags_text : List ℕ
  pub named : IsSet set set_text
  pub unchanged : IsModifier since modifier
  pub stored : AreFlags flags keywords flags_text
  pub text : b ≡ uid_text by_uid ++ codes "STORE " ++ set_text ++ codes " " ++ modifier ++ how_text how
      ++ codes " " ++ flags_text

-- the first line of an APPEND, up to the number of bytes that follow it (RFC 3501, section 4.3,
-- literals)
pub record IsAppendStart (flags : ℕ) (keywords : List (List ℕ)) (size : ℕ) (b : List ℕ) : Type 0 where
  pub flags_text : List ℕ
  pub stored : AreFlags flags keywords flags_text
  pub below : size < 2 ^ 32
  pub text : b ≡ codes "APPEND " ++ flags_text ++ codes " {" ++ decimal size ++ codes "}"

-- a command that stands on one line
abbrev pub IsCommand : Command → List ℕ → Type 0
IsCommand command.Select b = b ≡ codes "SELECT"
IsCommand command.Noop b = b ≡ codes "NOOP"
IsCommand command.Check b = b ≡ codes "CHECK"
IsCommand command.Expunge b = b ≡ codes "EXPUNGE"
IsCommand (command.Fetch by_uid set items) b = IsFetch by_uid set items b
IsCommand (command.Store by_uid set how flags keywords since) b =
    IsStore by_uid set how flags keywords since b
IsCommand (command.Search by_uid key) b =
    (text : List ℕ) × AreSought key text × (b ≡ uid_text by_uid ++ codes "SEARCH " ++ text)
IsCommand (command.UidRemove set) b =
    (text : List ℕ) × IsSet set text × (b ≡ codes "UID REMOVE " ++ text)
IsCommand (command.Append flags keywords message) b = ⊥

-- ---- lines

-- the name of a session, and its command
abbrev pub NamedLine : Type 0
NamedLine = List ℕ × Command

-- a small letter or a digit
abbrev pub is_session_byte : ℕ → Bool
is_session_byte n = (nat_le 97 n && nat_le n 122) || (nat_le 48 n && nat_le n 57)

-- 1 to 16 such bytes
pub record IsSession (name : List ℕ) : Type 0 where
  pub size : (1 ≤ length name) × (length name ≤ 16)
  pub bytes : All (λ n. is_session_byte n ≡ true) name

-- so many bytes of a line stand before its first line end
abbrev pub line_limit : ℕ
line_limit = 65536

-- an empty line, or one that begins with `#` and has no line feed
abbrev pub IsSkipped : List ℕ → Type 0
IsSkipped [] = Unit {0}
IsSkipped (b ∷ text) = (b ≡ 35) × (Contains text 10 → ⊥) × (length (b ∷ text) ≤ line_limit)

-- a session's name, a space and a command on the line
pub record IsShortLine (line : NamedLine) (b : List ℕ) : Type 0 where
  pub session : IsSession line.0
  pub command_text : List ℕ
  pub command : IsCommand line.1 command_text
  pub text : b ≡ line.0 ++ codes " " ++ command_text
  pub size : length b ≤ line_limit

-- a session's name, a space, and the first line of an APPEND
pub record IsLiteralStart (session : List ℕ) (flags : ℕ) (keywords : List (List ℕ)) (size : ℕ) (b : List ℕ) : Type 0 where
  pub named : IsSession session
  pub command_text : List ℕ
  pub command : IsAppendStart flags keywords size command_text
  pub text : b ≡ session ++ codes " " ++ command_text
  pub short : length b ≤ line_limit

-- behind its line end the message follows with its size
pub record IsLiteral (session : List ℕ) (flags : ℕ) (keywords : List (List ℕ)) (message b : List ℕ) : Type 0 where
  pub start : List ℕ
  pub ending : List ℕ
  pub starts : IsLiteralStart session flags keywords (length message) start
  pub ends : IsLineEnd ending
  pub text : b ≡ start ++ ending ++ message

-- a line of either kind
abbrev pub IsLine : NamedLine → List ℕ → Type 0
IsLine (session, command.Append flags keywords message) b =
    IsLiteral session flags keywords message b
IsLine line b = IsShortLine line b

-- ---- the whole script

-- a line or a literal with its line end, and the one command that it has or none
pub record Piece : Type 0 where
  pub lines : List NamedLine
  pub text : List ℕ
  pub ending : List ℕ

-- the script may end in the first line of an APPEND of no bytes
pub record IsEmptyLiteral (piece : Piece) : Type 0 where
  pub session : List ℕ
  pub flags : ℕ
  pub keywords : List (List ℕ)
  pub starts : IsLiteralStart session flags keywords 0 piece.text
  pub lines : piece.lines ≡ (session, command.Append flags keywords []) ∷ []
  pub ending : piece.ending ≡ []

-- a skipped line, a command's line, or such a literal
abbrev pub IsPiece : Piece → Type 0
IsPiece piece =
    ((piece.lines ≡ []) × IsSkipped piece.text)
    ⊎ ((line : NamedLine) × (piece.lines ≡ line ∷ []) × IsLine line piece.text)
    ⊎ IsEmptyLiteral piece

-- the text of the pieces
abbrev pub pieces_text : List Piece → List ℕ
pieces_text pieces = flat_map (λ piece. piece.text ++ piece.ending) pieces

-- their lines with commands
abbrev pub pieces_lines : List Piece → List NamedLine
pieces_lines pieces = flat_map (λ piece. piece.lines) pieces

-- each has a line end, but the last may end with the script
abbrev pub AreEnded : List Piece → Type 0
AreEnded [] = Unit {0}
AreEnded (piece ∷ []) = IsLineEnd piece.ending ⊎ ((piece.ending ≡ []) × (1 ≤ length piece.text))
AreEnded (piece ∷ pieces) = IsLineEnd piece.ending × AreEnded pieces

-- the sessions in the order of their first lines
abbrev pub and_session : List (List ℕ) → NamedLine → List (List ℕ)
and_session names line = if list_any (bytes_eq line.0) names then names else names ++ line.0 ∷ []

-- the names of all sessions, in that order
abbrev pub sessions_of : List NamedLine → List (List ℕ)
sessions_of lines = fold and_session [] lines

-- so many sessions at most
abbrev pub session_limit : ℕ
session_limit = 64

-- 64 MiB
abbrev pub script_limit : ℕ
script_limit = 67108864

-- the script has these lines
pub record IsScript (lines : List NamedLine) (b : List ℕ) : Type 0 where
  pub size : length b ≤ script_limit
  pub pieces : List Piece
  pub each : All IsPiece pieces
  pub ended : AreEnded pieces
  pub text : b ≡ pieces_text pieces
  pub are : lines ≡ pieces_lines pieces
  pub sessions : length (sessions_of lines) ≤ session_limit

-- ---- faults

-- a line number is 1 and the line feeds before the line
abbrev pub line_number : List ℕ → ℕ
line_number front = 1 + count_by (nat_eq 10) front

-- the lines before a fault: all are good, and have line ends
pub record AreBefore (lines : List NamedLine) (front : List ℕ) : Type 0 where
  pub pieces : List Piece
  pub each : All IsPiece pieces
  pub ended : All (λ piece. IsLineEnd piece.ending) pieces
  pub text : front ≡ pieces_text pieces
  pub are : lines ≡ pieces_lines pieces
  pub sessions : length (sessions_of lines) ≤ session_limit

-- a further line may be this session's
abbrev pub MaySpeak : List NamedLine → List ℕ → Type 0
MaySpeak lines session =
    length (sessions_of (lines ++ (session, command.Noop) ∷ [])) ≤ session_limit

-- a good line begins the rest, with a line end or as the script's last
pub record BeginsWell (lines : List NamedLine) (rest : List ℕ) : Type 0 where
  pub piece : Piece
  pub is : IsPiece piece
  pub behind : List ℕ
  pub text : rest ≡ piece.text ++ piece.ending ++ behind
  pub ended : IsLineEnd piece.ending ⊎ ((piece.ending ≡ []) × (behind ≡ []))
  pub allowed : All (λ line. MaySpeak lines line.0) piece.lines

-- a literal begins the rest, and fewer bytes follow than its number says
pub record BeginsShort (lines : List NamedLine) (rest : List ℕ) : Type 0 where
  pub session : List ℕ
  pub flags : ℕ
  pub keywords : List (List ℕ)
  pub number : ℕ
  pub start : List ℕ
  pub ending : List ℕ
  pub bytes : List ℕ
  pub starts : IsLiteralStart session flags keywords number start
  pub text : rest ≡ start ++ ending ++ bytes
  pub ended : IsLineEnd ending ⊎ ((ending ≡ []) × (bytes ≡ []))
  pub few : length bytes < number
  pub allowed : MaySpeak lines session

-- the first line that isn't good, by its number
pub record IsBadLine (script : List ℕ) (number : ℕ) : Type 0 where
  pub size : length script ≤ script_limit
  pub lines : List NamedLine
  pub front : List ℕ
  pub rest : List ℕ
  pub text : script ≡ front ++ rest
  pub before : AreBefore lines front
  pub some : 1 ≤ length rest
  pub bad : BeginsWell lines rest → ⊥
  pub not_short : BeginsShort lines rest → ⊥
  pub is : number ≡ line_number front

-- the first line that isn't good is a literal without all its bytes
pub record IsShortLiteral (script : List ℕ) (number : ℕ) : Type 0 where
  pub size : length script ≤ script_limit
  pub lines : List NamedLine
  pub front : List ℕ
  pub rest : List ℕ
  pub text : script ≡ front ++ rest
  pub before : AreBefore lines front
  pub short : BeginsShort lines rest
  pub is : number ≡ line_number front

-- the script has more bytes than that
abbrev pub IsTooLong : List ℕ → Type 0
IsTooLong script = script_limit < length script
