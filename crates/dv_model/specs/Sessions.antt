-- The rules of a session: what a command writes and what it is answered (RFC 3501, sections 6 and 7).
use Rattle.std.specs.Prelude.{ℕ, zero, suc, ◌+◌, ◌-◌, ◌*◌, ◌/◌, ◌%◌, ◌^◌, ◌<◌, min, All, Bool, true, false, not, ◌&&◌, cond, List, [], ◌∷◌, ◌++◌, length, map, filter, find, flat_map, take, drop, Option, Some, None, unwrap_or, option_map, nat_eq, nat_lt, nat_le, bytes_eq, bit_and, codes, if◌then◌else◌}
use Rattle.std.specs.Int.{w32, to_le_bytes}
use Rattle.std.specs.List.{list_any, enumerate_from, reduce}
use Rattle.dv_model.specs.declared.types.Body.{Body}
use Rattle.dv_model.specs.declared.types.Body.TheVariants as body
use Rattle.dv_model.specs.declared.types.Command.{Command}
use Rattle.dv_model.specs.declared.types.Command.TheVariants as command
use Rattle.dv_model.specs.declared.types.Group.{Group}
use Rattle.dv_model.specs.declared.types.How.{How}
use Rattle.dv_model.specs.declared.types.How.TheVariants as how
use Rattle.dv_model.specs.declared.types.Item.{Item}
use Rattle.dv_model.specs.declared.types.Item.TheVariants as item
use Rattle.dv_model.specs.declared.types.Key.{Key}
use Rattle.dv_model.specs.declared.types.Mailbox.{Mailbox}
use Rattle.dv_model.specs.declared.types.Mark.{Mark}
use Rattle.dv_model.specs.declared.types.Pair.{Pair}
use Rattle.dv_model.specs.declared.types.Record.{Record}
use Rattle.dv_model.specs.declared.types.Reply.{Reply}
use Rattle.dv_model.specs.declared.types.Reply.TheVariants as reply
use Rattle.dv_model.specs.declared.types.Row.{Row}
use Rattle.dv_model.specs.declared.types.Shown.{Shown}
use Rattle.dv_model.specs.declared.types.Span.{Span}
use Rattle.dv_model.specs.declared.types.Step.{Step}
use Rattle.dv_model.specs.declared.types.Step.TheVariants.{Held, Full}
use Rattle.dv_model.specs.declared.types.Word.{Word}
use Rattle.dv_model.specs.declared.types.Word.TheVariants as word
use Rattle.dv_model.specs.declared.types.Value.{Value}
use Rattle.dv_model.specs.declared.types.Value.TheVariants as value
use Rattle.dv_model.specs.Effects.{no_id}
use Rattle.dv_model.specs.Fields.{field_of, virtual_size}
use Rattle.dv_model.specs.Journals.{Mail, Held as HeldMail, Damaged, last_file_seq}
use Rattle.dv_model.specs.Names.{IsName}
use Rattle.dv_model.specs.Searches.{Candidate, meets, needs_mail}
use Rattle.dv_model.specs.Sets.{named, named_by_uid, numbered, largest_uid, missing_end}
use Rattle.dv_model.specs.Spelling.{group_text}
use Rattle.dv_model.specs.Views.{View, empty_view, moved, said, changes, names_of}

-- ---- kinds of commands

-- SELECT opens the mailbox (RFC 3501, section 6.3.1)
abbrev pub is_select : Command → Bool
is_select command.Select = true
is_select c = false

-- APPEND adds a message (RFC 3501, section 6.3.11)
abbrev pub is_append : Command → Bool
is_append (command.Append flags keywords message) = true
is_append c = false

-- it may change the mailbox or its files
abbrev pub is_write : Command → Bool
is_write (command.Append flags keywords message) = true
is_write command.Expunge = true
is_write command.Check = true
is_write (command.Store by_uid set how flags keywords unchanged_since) = true
is_write (command.UidRemove set) = true
is_write c = false

-- a command whose flags are a byte and whose keywords are names (RFC 3501, section 9, atom)
abbrev pub IsCommand : Command → Type 0
IsCommand (command.Append flags keywords message) = (flags < 2 ^ 8) × All IsName keywords
IsCommand (command.Store by_uid set how flags keywords unchanged_since) = (flags < 2 ^ 8) × All IsName keywords
IsCommand c = Unit {0}

-- the name of the command in its last line
abbrev pub word_of : Command → Word
word_of command.Select = word.Select
word_of command.Noop = word.Noop
word_of command.Check = word.Check
word_of command.Expunge = word.Expunge
word_of (command.Append flags keywords message) = word.Append
word_of (command.Fetch by_uid set items) = cond by_uid word.UidFetch word.Fetch
word_of (command.Store by_uid set how flags keywords unchanged_since) = cond by_uid word.UidStore word.Store
word_of (command.Search by_uid key) = cond by_uid word.UidSearch word.Search
word_of (command.UidRemove set) = word.UidRemove

-- the value is taken from the message itself (RFC 3501, section 6.4.5)
abbrev pub reads_message : Item → Bool
reads_message item.Size = true
reads_message item.Body = true
reads_message (item.Field name) = true
reads_message i = false

-- a FETCH or a SEARCH that reads messages
abbrev pub reads_mail : Command → Bool
reads_mail (command.Fetch by_uid set items) = list_any reads_message items
reads_mail (command.Search by_uid key) = needs_mail key
reads_mail c = false

-- ---- what a command writes

-- records that change messages carry the external mark (Dovecot's MAIL_TRANSACTION_EXTERNAL)
abbrev pub external : ℕ
external = 1

-- one keyword add for each keyword of an append
abbrev pub keyword_adds : ℕ → List (List ℕ) → List Record
keyword_adds uid names = map (λ name. record { top = external; body = body.KeywordUpdate how.Add name (record { first = uid; last = uid } ∷ []) }) names

-- a list of many items goes into pieces of 65,536 and a last one, each a record of its own
abbrev pub piece_size : ℕ
piece_size = 65536

-- so many pieces of a list
abbrev pub first_pieces : {X : Type 0} → ℕ → List X → List (List X)
first_pieces zero xs = []
first_pieces (suc k) xs = take piece_size xs ∷ first_pieces k (drop piece_size xs)

-- all pieces of a list
abbrev pub pieces : {X : Type 0} → List X → List (List X)
pieces xs = first_pieces ((length xs + (piece_size - 1)) / piece_size) xs

-- a record that changes messages
abbrev pub external_record : Body → Record
external_record b = record { top = external; body = b }

-- records about extensions and headers carry no mark
abbrev pub internal_record : Body → Record
internal_record b = record { top = 0; body = b }

-- a UID in front of ranges that follow it
abbrev pub with_uid : ℕ → List Pair → List Pair
with_uid uid [] = record { first = uid; last = uid } ∷ []
with_uid uid (pair ∷ pairs) = if nat_eq (uid + 1) pair.first then record { first = uid; last = pair.last } ∷ pairs else record { first = uid; last = uid } ∷ pair ∷ pairs

-- rising UIDs in as few ranges of consecutive ones as there can be
abbrev pub ranges_of : List ℕ → List Pair
ranges_of [] = []
ranges_of (uid ∷ uids) = with_uid uid (ranges_of uids)

-- the mailbox has a row of this UID that passes the test
abbrev pub has_row : Mailbox → (Row → Bool) → ℕ → Bool
has_row m test uid = list_any (λ row. nat_eq row.uid uid && test row) m.rows

-- the mailbox has a row of this UID
abbrev pub has_uid : Mailbox → ℕ → Bool
has_uid m uid = has_row m (λ row. true) uid

-- UNCHANGEDSINCE: the operation is performed where the message's modification sequence is equal to or less than the
-- number (RFC 7162, section 3.1.3)
abbrev pub is_unchanged : Option ℕ → Row → Bool
is_unchanged None row = true
is_unchanged (Some n) row = nat_le row.modseq n

-- STORE changes the named messages of the view that the mailbox has
abbrev pub stored_uids : Bool → List Span → Option ℕ → View → Mailbox → List ℕ
stored_uids by_uid set since view m = filter (has_row m (is_unchanged since)) (map (λ row. row.1.uid) (named by_uid set view))

-- nothing is written where no flag is named
abbrev pub flag_updates : ℕ → ℕ → List Pair → List Record
flag_updates add remove pairs =
    if nat_eq (add + remove) 0 then []
    else map (λ ps. external_record (body.FlagUpdate (map (λ pair. record { first = pair.first; last = pair.last; add = add; remove = remove }) ps))) (pieces pairs)

-- a keyword is added to or removed from the messages (mail_transaction_keyword_update)
abbrev pub keyword_updates : How → List Pair → List ℕ → List Record
keyword_updates h pairs name = map (λ ps. external_record (body.KeywordUpdate h name ps)) (pieces pairs)

-- the messages lose all keywords (mail_transaction_keyword_reset)
abbrev pub keyword_resets : List Pair → List Record
keyword_resets pairs = map (λ ps. external_record (body.KeywordReset ps)) (pieces pairs)

-- +FLAGS adds, -FLAGS removes, FLAGS replaces the flags (RFC 3501, section 6.4.6)
abbrev pub store_records : How → ℕ → List (List ℕ) → List Pair → List Record
store_records how.Add flags names pairs = flag_updates flags 0 pairs ++ flat_map (keyword_updates how.Add pairs) names
store_records how.Remove flags names pairs = flag_updates 0 flags pairs ++ flat_map (keyword_updates how.Remove pairs) names
store_records how.Replace flags names pairs = flag_updates flags (31 - flags % 32) pairs ++ keyword_resets pairs ++ flat_map (keyword_updates how.Add pairs) names

-- expunges with the messages' GUIDs (mail_transaction_expunge_guid)
abbrev pub expunges : (ℕ → List ℕ) → List ℕ → List Record
expunges guid uids = map (λ rows. external_record (body.ExpungeGuid rows)) (pieces (map (λ uid. record { uid = uid; guid = guid uid }) uids))

-- the message has the flag \Deleted (RFC 3501, section 2.3.2)
abbrev pub is_deleted : Row → Bool
is_deleted row = not (nat_eq (bit_and row.flags 4) 0)

-- so many messages go at once
abbrev pub expunge_limit : ℕ
expunge_limit = 100000

-- EXPUNGE removes the messages with \Deleted (RFC 3501, section 6.4.3), at most 100,000 at once
abbrev pub deleted_uids : Mailbox → List ℕ
deleted_uids m = map (λ row. row.uid) (take expunge_limit (filter is_deleted m.rows))

-- UID REMOVE removes the named messages of the view, whatever their flags
abbrev pub removed_uids : List Span → View → Mailbox → List ℕ
removed_uids set view m = filter (has_uid m) (map (λ row. row.1.uid) (named_by_uid set view))

-- the number of the mailbox's cache file, or 0 where it has none
abbrev pub cache_number : Mailbox → ℕ
cache_number m = unwrap_or (option_map (λ e. e.reset_id) (find (λ e. bytes_eq e.name (codes "cache")) m.extensions)) 0

-- the next one, which is never 0
abbrev pub next_number : ℕ → ℕ
next_number n = if nat_eq n 4294967295 then 1 else n + 1

-- the place of each row's entry in the cache file: entries of 16 bytes behind a header of 32
abbrev pub offset_row : ℕ × Row → List ℕ
offset_row row = to_le_bytes w32 row.1.uid ++ to_le_bytes w32 (32 + 16 * row.0)

-- CHECK introduces the cache, gives it a new number and says where its rows stand
abbrev pub check_records : Mailbox → List Record
check_records m =
    internal_record (body.ExtIntro (record { ext_id = no_id; reset_id = cache_number m; hdr_size = 0; record_size = 4; record_align = 4; flags = 0; name = codes "cache" } ∷ []))
    ∷ internal_record (body.ExtReset (next_number (cache_number m)) 0)
    ∷ map (λ rows. internal_record (body.ExtRecordUpdate (flat_map offset_row rows))) (pieces (enumerate_from 0 m.rows))

-- the records that a command writes, from the view of its session, the mailbox that it meets and the messages' GUIDs
abbrev pub group_of : Command → View → Mailbox → (ℕ → List ℕ) → Group
group_of (command.Append flags keywords message) view m guid =
    record { records = record { top = external; body = body.Append (record { uid = m.next_uid; flags = flags } ∷ []) } ∷ keyword_adds m.next_uid keywords }
group_of (command.Store by_uid set h flags keywords since) view m guid = record { records = store_records h flags keywords (ranges_of (stored_uids by_uid set since view m)) }
group_of command.Expunge view m guid = record { records = expunges guid (deleted_uids m) }
group_of (command.UidRemove set) view m guid = record { records = expunges guid (removed_uids set view m) }
group_of command.Check view m guid = record { records = check_records m }
group_of c view m guid = record { records = [] }

-- ---- when it is refused

-- the message of an APPEND
abbrev pub message_of : Command → List ℕ
message_of (command.Append flags keywords message) = message
message_of c = []

-- the largest UID is 4294967294 (RFC 3501, section 2.3.1.1: a UID is a number of 32 bits)
abbrev pub end_of_uids : ℕ
end_of_uids = 4294967295

-- 32 MiB
abbrev pub message_limit : ℕ
message_limit = 33554432

-- 64 MiB
abbrev pub group_limit : ℕ
group_limit = 67108864

-- a log file has at most 2 ^ 30 bytes, of which the last four are a closed place
abbrev pub log_limit : ℕ
log_limit = 1073741820

-- a group of this size doesn't fit behind the log's end, and no new file can be begun for it
abbrev pub is_log_full : Bool → Mark → ℕ → Bool
is_log_full rotates mark size = not (rotates && nat_lt mark.file_seq last_file_seq) && nat_lt log_limit (mark.offset + size)

-- the limit that the command meets first: the operation ran up against an implementation limit (RFC 5530, LIMIT)
abbrev pub limit_of : Command → Mailbox → Bool → Mark → Group → Option Reply
limit_of c m rotates mark g =
    if is_append c && nat_eq m.next_uid end_of_uids then Some reply.UidsUsedUp
    else (if nat_lt message_limit (length (message_of c)) then Some (reply.TooLong (length (message_of c)))
    else (if nat_lt group_limit (length (group_text g)) then Some (reply.TooLong (length (group_text g)))
    else (if is_log_full rotates mark (length (group_text g)) then Some (reply.TooLong (length (group_text g))) else None)))

-- ---- what it is answered

-- a session: whether it has selected the mailbox, what it was shown, and up to where it was told
pub record State : Type 0 where
  pub selected : Bool
  pub view : View
  -- how many entries of the log were told
  pub told : ℕ

-- a session that hasn't selected the mailbox
abbrev pub new_session : State
new_session = record { selected = false; view = empty_view; told = 0 }

-- SELECT shows the mailbox anew
abbrev pub view_before : Command → View → View
view_before command.Select view = empty_view
view_before c view = view

-- the first message number of the command that the view lacks
abbrev pub missing_number : Command → View → Option ℕ
missing_number (command.Fetch false set items) view = missing_end set view
missing_number (command.Store false set h flags keywords since) view = missing_end set view
missing_number c view = None

-- the one line of a command that is refused before it does anything
abbrev pub refusal_of : State → Command → Mailbox → Bool → Mark → (ℕ → List ℕ) → Option Reply
refusal_of x c m rotates mark guid =
    if not x.selected && not (is_select c) then Some reply.NotSelected
    else missing (missing_number c x.view)
  where
    missing : Option ℕ → Option Reply
    missing (Some n) = Some (reply.NoMessage n)
    missing None = if is_write c then limit_of c m rotates mark (group_of c x.view m guid) else None

-- FETCH, STORE and SEARCH by message numbers leave the numbers as they are (RFC 3501, section 7.4.1)
abbrev pub step_of : Command → Step
step_of (command.Fetch false set items) = Held
step_of (command.Store false set how flags keywords unchanged_since) = Held
step_of (command.Search false key) = Held
step_of c = Full

-- APPENDUID: the UIDVALIDITY of the mailbox and the UID assigned to the appended message (RFC 4315, section 3)
abbrev pub appended_of : Command → Mailbox → Mailbox → Option (ℕ × ℕ)
appended_of (command.Append flags keywords message) met m = Some (m.uid_validity, met.next_uid)
appended_of c met m = None

-- a message number, or the UID where the command goes by UIDs (RFC 3501, section 6.4.8)
abbrev pub number_of : Bool → ℕ × Shown → ℕ
number_of true row = row.1.uid
number_of false row = row.0

-- the named messages that UNCHANGEDSINCE kept (RFC 7162, section 3.1.3, MODIFIED)
abbrev pub modified_of : Command → View → Mailbox → List ℕ
modified_of (command.Store by_uid set h flags keywords (Some n)) view met =
    map (number_of by_uid) (filter (λ row. has_row met (λ r. nat_lt n r.modseq) row.1.uid) (named by_uid set view))
modified_of c view met = []

-- the message's bytes, where the mailbox has its row and the file is whole
abbrev pub message_in : (ℕ → Mail) → Mailbox → ℕ → Option (List ℕ)
message_in mail m uid = if has_uid m uid then held (mail uid) else None
  where
    held : Mail → Option (List ℕ)
    held (HeldMail message) = Some message
    held Damaged = None

-- a value of a FETCH; RFC822.SIZE counts each line end as CRLF
abbrev pub value_of : Mailbox → Shown → List ℕ → Item → Value
value_of m s message item.Flags = value.Flags s.flags (names_of m s.keywords)
value_of m s message item.Size = value.Size (virtual_size message)
value_of m s message item.Body = value.Body message
value_of m s message (item.Field name) = value.Field name (field_of message name)
value_of m s message item.Modseq = value.Modseq s.modseq

-- the FETCH line of a row (RFC 3501, section 7.4.2)
abbrev pub fetch_line : Mailbox → List Item → ℕ × Shown → List ℕ → Reply
fetch_line m items row message = reply.Fetch row.0 row.1.uid (map (value_of m row.1 message) items)

-- a row has a line, unless the line needs a message that isn't there
abbrev pub fetch_lines : (ℕ → Mail) → Mailbox → List Item → ℕ × Shown → List Reply
fetch_lines mail m items row = if list_any reads_message items then needing (message_in mail m row.1.uid) else fetch_line m items row [] ∷ []
  where
    needing : Option (List ℕ) → List Reply
    needing None = []
    needing (Some message) = fetch_line m items row message ∷ []

-- a row of the view as a search key sees it
abbrev pub candidate : View → Mailbox → Shown → List ℕ → Candidate
candidate view m s message = record { uid = s.uid; flags = s.flags; keywords = names_of m s.keywords; largest_uid = largest_uid view; message = message }

-- a row is found as it was shown; one whose message is needed and isn't there is not found
abbrev pub is_found : (ℕ → Mail) → View → Mailbox → Key → Shown → Bool
is_found mail view m key s = if needs_mail key then needing (message_in mail m s.uid) else meets key (candidate view m s [])
  where
    needing : Option (List ℕ) → Bool
    needing None = false
    needing (Some message) = meets key (candidate view m s message)

-- the data lines, over the view before the move (RFC 3501, sections 6.4.4 and 6.4.5)
abbrev pub data_of : (ℕ → Mail) → Command → View → Mailbox → List Reply
data_of mail (command.Fetch by_uid set items) view m = flat_map (fetch_lines mail m items) (named by_uid set view)
data_of mail (command.Search by_uid key) view m = reply.Search (map (number_of by_uid) (filter (λ row. is_found mail view m key row.1) (numbered view))) ∷ []
data_of mail c view m = []

-- what is told of the move to the mailbox: SELECT says its size always, and then its two numbers (RFC 3501, section 6.3.1)
abbrev pub told_of : Command → Mailbox → View → View → List Reply
told_of command.Select m old new = reply.Exists (length new.rows) ∷ reply.Validity m.uid_validity ∷ reply.NextUid m.next_uid ∷ changes m old new
told_of c m old new = said m old new

-- the rows of the view that a command looks at in the mailbox: those that a STORE names, and those whose messages are read
abbrev pub looked_at : Command → View → List (ℕ × Shown)
looked_at (command.Fetch by_uid set items) view = if list_any reads_message items then named by_uid set view else []
looked_at (command.Store by_uid set h flags keywords since) view = named by_uid set view
looked_at (command.Search by_uid key) view = if needs_mail key then numbered view else []
looked_at c view = []

-- their UIDs
abbrev pub uids_looked_at : Command → View → List ℕ
uids_looked_at c view = map (λ row. row.1.uid) (looked_at c view)

-- the smallest UID that it looks at and the mailbox lacks: someone else has issued an EXPUNGE for the same mailbox
-- (RFC 5530, EXPUNGEISSUED)
abbrev pub gone_uid : Command → View → Mailbox → Option ℕ
gone_uid c view m = reduce min (filter (λ uid. not (has_uid m uid)) (uids_looked_at c view))

-- the message's file is missing or damaged
abbrev pub is_damaged : Mail → Bool
is_damaged (HeldMail message) = false
is_damaged Damaged = true

-- the smallest UID whose message it reads and whose file is missing or damaged: some relevant data are corrupt
-- (RFC 5530, CORRUPTION)
abbrev pub damaged_uid : (ℕ → Mail) → Command → View → Mailbox → Option ℕ
damaged_uid mail c view m = if reads_mail c then reduce min (filter (λ uid. has_uid m uid && is_damaged (mail uid)) (uids_looked_at c view)) else None

-- the last line of an answer
abbrev pub ending_of : (ℕ → Mail) → Command → View → Mailbox → Mailbox → Mark → Reply
ending_of mail c view met m mark = ended (gone_uid c view m) (damaged_uid mail c view m)
  where
    ended : Option ℕ → Option ℕ → Reply
    ended (Some uid) damaged = reply.Gone uid mark (modified_of c view met)
    ended None (Some uid) = reply.Damaged uid mark
    ended None None = reply.Done (word_of c) mark (appended_of c met m) (modified_of c view met)

-- the lines of an answer, and the session behind it
pub record Answer : Type 0 where
  pub replies : List Reply
  pub next : State

-- The answer at the mailbox after q entries, with the mark there, to a command that met the mailbox `met`: the data
-- lines, what is told of the move, and the last line.
abbrev pub answer : (ℕ → Mail) → State → Command → Mailbox → ℕ → Mailbox → Mark → Answer
answer mail x c met q m mark =
    let old = view_before c x.view in
    let new = moved (step_of c) old m in
    record {
      replies = data_of mail c old m ++ told_of c m old new ++ ending_of mail c old met m mark ∷ [];
      next = record { selected = true; view = new; told = q };
    }
