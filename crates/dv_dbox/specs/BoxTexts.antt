-- The file of one message (Dovecot, "dbox mailbox format").
use Rattle.std.specs.Prelude.{◌≡◌, ℕ, ◌+◌, ◌-◌, ◌*◌, ◌/◌, ◌%◌, ◌==◌, ◌&&◌, ◌||◌, nat_lt, nat_le, Bool, true, false, not, if◌then◌else◌, List, [], ◌∷◌, ◌++◌, length, take, drop, replicate, flat_map, filter, find, position, slice_index, Option, Some, None, Result, Ok, Err, bytes_eq, codes}
use Rattle.std.specs.Char.{digit_value, digit_char, is_ascii_alphabetic}
use Rattle.std.specs.Fmt.{digits}
use Rattle.std.specs.List.{AllPass, list_all, slice_split}
use Rattle.std.specs.Option.{option_map, option_and_then, ok_or}
use Rattle.std.specs.Str.{str_to_ascii_lowercase}
use Rattle.std.specs.Str.Parse.{digits_value}
use Rattle.dv_model.specs.Fields.{virtual_size}

-- a message with its metadata
pub record BoxContent : Type 0 where
  pub stamp : ℕ
  pub bytes : List ℕ
  pub guid : Option (List ℕ)
  pub received : Option ℕ
  pub physical : Option ℕ
  pub virtual_size : Option ℕ
  pub others : List (List ℕ)

-- the part of a file that is the first to break the format
pub data BoxFault : Type 0 where
  BadHeader : BoxFault
  BadMessageHeader : BoxFault
  BadSize : BoxFault
  BadEnd : BoxFault
  BadMetadata : BoxFault

-- ---- hexadecimal digits, of both cases when read and of lower case when written

-- a digit, or a letter from A to F of either case
abbrev pub is_hex : ℕ → Bool
is_hex b = nat_lt (digit_value b) 16

-- digits alone
abbrev pub are_hex : List ℕ → Bool
are_hex text = list_all is_hex text

-- the number that 1 to so many digits spell
abbrev pub hex_number : ℕ → List ℕ → Option ℕ
hex_number most text =
    if nat_le 1 (length text) && nat_le (length text) most && are_hex text
    then Some (digits_value 16 text)
    else None

-- the bytes that pairs of digits spell
abbrev pub paired : List ℕ → List ℕ
paired [] = []
paired (high ∷ []) = []
paired (high ∷ low ∷ text) = (digit_value high * 16 + digit_value low) ∷ paired text

-- sixteen bytes in 32 digits
abbrev pub guid_number : List ℕ → Option (List ℕ)
guid_number text = if length text == 32 && are_hex text then Some (paired text) else None

-- a number without leading zeros
abbrev pub hex_text : ℕ → List ℕ
hex_text n = digits 16 false n

-- a number in sixteen digits
abbrev pub wide_hex_text : ℕ → List ℕ
wide_hex_text n = replicate (16 - length (hex_text n)) 48 ++ hex_text n

-- bytes in pairs of digits
abbrev pub pairs_text : List ℕ → List ℕ
pairs_text bytes = flat_map (λ b. digit_char (b / 16) ∷ digit_char (b % 16) ∷ []) bytes

-- ---- items: a key letter and a value, as the fields of the first line and the lines of the metadata are

-- it begins with a letter of ASCII, the key
abbrev pub is_item : List ℕ → Bool
is_item [] = false
is_item (key ∷ value) = is_ascii_alphabetic key

-- an item of this key
abbrev pub has_key : ℕ → List ℕ → Bool
has_key key [] = false
has_key key (k ∷ value) = k == key

-- the value of the first item of this key
abbrev pub value_of : ℕ → List (List ℕ) → Option (List ℕ)
value_of key items = option_map (drop 1) (find (has_key key) items)

-- ---- the first line: the version, and fields behind a space each

-- a space, which stands before each field of the first line
abbrev pub is_space : ℕ → Bool
is_space b = b == 32

-- a line feed, which ends a line
abbrev pub is_feed : ℕ → Bool
is_feed b = b == 10

-- the message header has 30 bytes
abbrev pub is_header_size : Option (List ℕ) → Bool
is_header_size None = false
is_header_size (Some value) = bytes_eq (str_to_ascii_lowercase value) (codes "1e")

-- M is the message header's size, and C the time of the file's making
abbrev pub stamp_of : List (List ℕ) → Option ℕ
stamp_of fields =
    if list_all is_item fields && is_header_size (value_of 77 fields)
    then option_and_then (hex_number 8) (value_of 67 fields)
    else None

-- the fields behind the version, which is 2
abbrev pub fields_of : List (List ℕ) → Option (List (List ℕ))
fields_of [] = None
fields_of (version ∷ fields) = if bytes_eq version (codes "2") then Some fields else None

-- the time of the file's making, as the first line says it
abbrev pub line_stamp : List ℕ → Option ℕ
line_stamp line = option_and_then stamp_of (fields_of (slice_split is_space line))

-- a text up to its first line feed, and what follows that
abbrev pub first_line : List ℕ → Option (List ℕ × List ℕ)
first_line text = option_map (λ i. (take i text, drop (i + 1) text)) (position is_feed text)

-- ---- reading: what a part says, and the bytes behind it, or the fault

-- go on with what a part says; the first fault ends the reading
infixl 10 ◌>>=◌
abbrev pub ◌>>=◌ : {A B : Type 0} → Result A BoxFault → (A → Result B BoxFault) → Result B BoxFault
(Ok x) >>= f = f x
(Err fault) >>= f = Err fault

-- the first line: the time of the file's making
abbrev pub header_at : List ℕ → Result (ℕ × List ℕ) BoxFault
header_at b = do
  line ← ok_or (first_line b) BadHeader
  stamp ← ok_or (line_stamp line.0) BadHeader
  Ok (stamp, line.1)

-- 01 02, the letter N, a space, eight bytes of any kind, a space, the size in sixteen digits, a
-- line feed
abbrev pub header_size : List ℕ → Option ℕ
header_size head =
    if length head == 30 && bytes_eq (take 4 head) (1 ∷ 2 ∷ 78 ∷ 32 ∷ [])
    && slice_index head 12 == 32 && slice_index head 29 == 10
    then hex_number 16 (take 16 (drop 13 head)) else None

-- the message header: the message's size
abbrev pub size_at : List ℕ → Result (ℕ × List ℕ) BoxFault
size_at b = do
  size ← ok_or (header_size (take 30 b)) BadMessageHeader
  Ok (size, drop 30 b)

-- the message's bytes, so many
abbrev pub message_at : ℕ → List ℕ → Result (List ℕ × List ℕ) BoxFault
message_at size b = if nat_lt (length b) size then Err BadSize else Ok (take size b, drop size b)

-- behind the message: a line feed, 01 03, a line feed
abbrev pub trailer : List ℕ
trailer = 10 ∷ 1 ∷ 3 ∷ 10 ∷ []

-- the trailer, which says nothing
abbrev pub end_at : List ℕ → Result (List ℕ) BoxFault
end_at b = if bytes_eq (take 4 b) trailer then Ok (drop 4 b) else Err BadEnd

-- of the parts between line feeds those before the first empty one that a line feed ends
abbrev pub before_empty : List (List ℕ) → Option (List (List ℕ))
before_empty [] = None
before_empty (part ∷ []) = None
before_empty (part ∷ next ∷ parts) =
    if length part == 0 then Some []
    else option_map (λ entries. part ∷ entries) (before_empty (next ∷ parts))

-- the lines of the metadata, which an empty line ends
abbrev pub entries_of : List ℕ → Option (List (List ℕ))
entries_of text =
    option_and_then (λ entries. if list_all is_item entries then Some entries else None) (before_empty (slice_split is_feed text))

-- a value that may be absent
abbrev pub read_at : {A : Type 0} → (List ℕ → Option A) → Option (List ℕ)
    → Result (Option A) BoxFault
read_at read None = Ok None
read_at read (Some value) = ok_or (option_map (λ x. Some x) (read value)) BadMetadata

-- the value of a key, which may be absent
abbrev pub value_at : {A : Type 0} → (List ℕ → Option A) → ℕ → List (List ℕ)
    → Result (Option A) BoxFault
value_at read key entries = read_at read (value_of key entries)

-- a line of another key than G, R, Z and V
abbrev pub is_other : List ℕ → Bool
is_other entry = not (has_key 71 entry || has_key 82 entry || has_key 90 entry || has_key 86 entry)

-- G is the GUID, R the time of receipt, Z the physical and V the virtual size
abbrev pub content_from : ℕ → List ℕ → List (List ℕ) → Result BoxContent BoxFault
content_from stamp bytes entries = do
  guid ← value_at guid_number 71 entries
  received ← value_at (hex_number 16) 82 entries
  physical ← value_at (hex_number 16) 90 entries
  as_sent ← value_at (hex_number 16) 86 entries
  Ok (record { stamp = stamp; bytes = bytes; guid = guid; received = received; physical = physical; virtual_size = as_sent; others = filter is_other entries })

-- what a file holds, or its first fault
abbrev pub box_content : List ℕ → Result BoxContent BoxFault
box_content b = do
  header ← header_at b
  size ← size_at header.1
  message ← message_at size.0 size.1
  rest ← end_at message.1
  entries ← ok_or (entries_of rest) BadMetadata
  content_from header.0 message.0 entries

-- ---- the format as a relation, part behind part

-- an item without a space or a line feed
abbrev pub is_field : List ℕ → Bool
is_field field = is_item field && list_all (λ b. not (is_space b) && not (is_feed b)) field

-- an item without a line feed
abbrev pub is_entry : List ℕ → Bool
is_entry entry = is_item entry && list_all (λ b. not (is_feed b)) entry

-- the fields of the first line
pub record AreFields (stamp : ℕ) (fields : List (List ℕ)) : Type 0 where
  pub each : AllPass is_field fields
  pub header_size : is_header_size (value_of 77 fields) ≡ true
  pub made : option_and_then (hex_number 8) (value_of 67 fields) ≡ Some stamp

-- the lines of the metadata
pub record AreEntries (m : BoxContent) (entries : List (List ℕ)) : Type 0 where
  pub each : AllPass is_entry entries
  pub guid : value_at guid_number 71 entries ≡ Ok m.guid
  pub received : value_at (hex_number 16) 82 entries ≡ Ok m.received
  pub physical : value_at (hex_number 16) 90 entries ≡ Ok m.physical
  pub as_sent : value_at (hex_number 16) 86 entries ≡ Ok m.virtual_size
  pub others : m.others ≡ filter is_other entries

-- eight bytes of any kind, and a size in sixteen digits
pub record IsMessageHeader (size : ℕ) (filler sized : List ℕ) : Type 0 where
  pub filled : length filler ≡ 8
  pub wide : length sized ≡ 16
  pub hex : are_hex sized ≡ true
  pub same : digits_value 16 sized ≡ size

-- the first line of these fields
abbrev pub fields_text : List (List ℕ) → List ℕ
fields_text fields = codes "2" ++ (flat_map (λ field. 32 ∷ field) fields ++ 10 ∷ [])

-- the message header of these bytes and this size
abbrev pub size_text : List ℕ → List ℕ → List ℕ
size_text filler sized = 1 ∷ 2 ∷ 78 ∷ 32 ∷ (filler ++ 32 ∷ (sized ++ 10 ∷ []))

-- the metadata of these lines, with the empty line behind them
abbrev pub entries_text : List (List ℕ) → List ℕ
entries_text entries = flat_map (λ entry. entry ++ 10 ∷ []) entries ++ 10 ∷ []

-- the bytes are a file of the message; what stands behind the metadata's empty line says nothing
pub record BoxText (m : BoxContent) (b : List ℕ) : Type 0 where
  pub fields : List (List ℕ)
  pub filler : List ℕ
  pub sized : List ℕ
  pub entries : List (List ℕ)
  pub rest : List ℕ
  pub text : b ≡ fields_text fields
      ++ (size_text filler sized ++ (m.bytes ++ (trailer ++ (entries_text entries ++ rest))))
  pub are_fields : AreFields m.stamp fields
  pub is_header : IsMessageHeader (length m.bytes) filler sized
  pub are_entries : AreEntries m entries

-- ---- the text that is written

-- the first line, from the time of the file's making
abbrev pub first_line_text : ℕ → List ℕ
first_line_text stamp = codes "2 M1e C" ++ hex_text stamp ++ 10 ∷ []

-- the message header, from the message's size
abbrev pub message_header_text : ℕ → List ℕ
message_header_text size = 1 ∷ 2 ∷ codes "N          " ++ wide_hex_text size ++ 10 ∷ []

-- a line of the metadata, from its key and value
abbrev pub entry_text : ℕ → List ℕ → List ℕ
entry_text key value = key ∷ value ++ 10 ∷ []

-- the metadata, from GUID, time of receipt and both sizes
abbrev pub metadata_text : List ℕ → ℕ → ℕ → ℕ → List ℕ
metadata_text guid received physical as_sent =
    entry_text 71 (pairs_text guid)
    ++ (entry_text 82 (hex_text received) ++ (entry_text 90 (hex_text physical) ++ (entry_text 86 (hex_text as_sent) ++ 10 ∷ [])))

-- the file of a message, from the time of its making, its GUID, the time of its receipt and its
-- bytes
abbrev pub written : ℕ → List ℕ → ℕ → List ℕ → List ℕ
written stamp guid received message =
    first_line_text stamp
    ++ (message_header_text (length message) ++ (message ++ (trailer ++ metadata_text guid received (length message) (virtual_size message))))
