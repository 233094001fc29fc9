-- What a record of the log does to a mailbox (Dovecot's mail-transaction-log.h; modification sequences by RFC 7162).
use Rattle.std.specs.Prelude.{ℕ, zero, suc, ◌+◌, ◌-◌, ◌/◌, ◌%◌, min, max, Bool, true, false, not, ◌&&◌, List, [], ◌∷◌, ◌++◌, length, map, filter, replicate, take, drop, fold, position, sum_by, slice_get, Option, Some, None, option_and_then, option_map, nat_eq, nat_lt, nat_le, bytes_eq, bit_and, bit_or, codes, if◌then◌else◌}
use Rattle.std.specs.List.{list_any, list_all}
use Rattle.std.specs.Int.{w32, from_le_bytes}
use Rattle.dv_model.specs.declared.types.Body.{Body}
use Rattle.dv_model.specs.declared.types.Body.TheVariants.{Expunge, Append, FlagUpdate, HeaderUpdate, ExtIntro, ExtReset, ExtHeaderUpdate, ExtRecordUpdate, KeywordUpdate, KeywordReset, ExpungeGuid, Carried}
use Rattle.dv_model.specs.declared.types.Change.{Change}
use Rattle.dv_model.specs.declared.types.Current.{Current}
use Rattle.dv_model.specs.declared.types.Extension.{Extension}
use Rattle.dv_model.specs.declared.types.GuidRow.{GuidRow}
use Rattle.dv_model.specs.declared.types.How.{How}
use Rattle.dv_model.specs.declared.types.How.TheVariants.{Add, Remove, Replace}
use Rattle.dv_model.specs.declared.types.Intro.{Intro}
use Rattle.dv_model.specs.declared.types.Mailbox.{Mailbox}
use Rattle.dv_model.specs.declared.types.NewRow.{NewRow}
use Rattle.dv_model.specs.declared.types.Pair.{Pair}
use Rattle.dv_model.specs.declared.types.Part.{Part}
use Rattle.dv_model.specs.declared.types.Record.{Record}
use Rattle.dv_model.specs.declared.types.Row.{Row}
use Rattle.dv_model.specs.Mailboxes.{last_modseq}
use Rattle.dv_model.specs.Spelling.{padded}

-- ---- append: new messages

-- an appended row has no keywords, and zero bytes for each extension
abbrev pub fresh_row : Mailbox → NewRow → Row
fresh_row m row = record { uid = row.uid; flags = row.flags; keywords = []; parts = map (λ e. replicate e.record_size 0) m.extensions; modseq = m.highest }

-- the mailbox with one row more, whose UID is the last that was given out
abbrev pub with_row : Mailbox → NewRow → Mailbox
with_row m row = record m { rows = m.rows ++ fresh_row m row ∷ []; next_uid = row.uid + 1 }

-- each row in turn, unless its UID was given out before
abbrev pub with_rows : Mailbox → List NewRow → Option Mailbox
with_rows m [] = Some m
with_rows m (row ∷ rows) = if nat_lt row.uid m.next_uid then None else with_rows (with_row m row) rows

-- ---- header update: UIDVALIDITY and UIDNEXT

-- the four bytes from a place on of the header, where a part covers them all
abbrev pub header_number : Part → ℕ → Option ℕ
header_number part at =
    if nat_le part.offset at && nat_le (at + 4) (part.offset + length part.bytes) then Some (from_le_bytes w32 (take 4 (drop (at - part.offset) part.bytes))) else None

-- the UIDVALIDITY is that number, where there is one
abbrev pub with_validity : Mailbox → Option ℕ → Mailbox
with_validity m None = m
with_validity m (Some n) = record m { uid_validity = n }

-- the UIDNEXT is raised to that number, and never lowered
abbrev pub with_next_uid : Mailbox → Option ℕ → Mailbox
with_next_uid m None = m
with_next_uid m (Some n) = record m { next_uid = max m.next_uid n }

-- bytes 24 to 27 of the header are the UIDVALIDITY, and 28 to 31 raise the UIDNEXT
abbrev pub with_header_part : Mailbox → Part → Mailbox
with_header_part m part = with_next_uid (with_validity m (header_number part 24)) (header_number part 28)

-- ---- expunge: messages leave

-- the range has the UID; both its ends count (mail_transaction_expunge: `uid1, uid2`)
abbrev pub is_in_pair : ℕ → Pair → Bool
is_in_pair uid pair = nat_le pair.first uid && nat_le uid pair.last

-- one of the ranges has the UID
abbrev pub is_in_pairs : List Pair → ℕ → Bool
is_in_pairs pairs uid = list_any (is_in_pair uid) pairs

-- one of the rows names the UID (mail_transaction_expunge_guid)
abbrev pub is_in_guid_rows : List GuidRow → ℕ → Bool
is_in_guid_rows rows uid = list_any (λ row. nat_eq row.uid uid) rows

-- the rows whose UIDs pass the test leave
abbrev pub without_uids : (ℕ → Bool) → Mailbox → Mailbox
without_uids test m = record m { rows = filter (λ row. not (test row.uid)) m.rows }

-- ---- flag update and keywords: messages change

-- each row whose UID passes the test is changed
abbrev pub with_changed : (ℕ → Bool) → (Row → Row) → Mailbox → Mailbox
with_changed test change m = record m { rows = map (λ row. if test row.uid then change row else row) m.rows }

-- a byte's bits without some of them, and then with others (mail_transaction_flag_update: `add_flags, remove_flags`)
abbrev pub with_bits : ℕ → ℕ → ℕ → ℕ
with_bits add remove flags = bit_or (bit_and flags (255 - remove)) add

-- the flags of each row in the range change
abbrev pub with_change : Mailbox → Change → Mailbox
with_change m change =
    with_changed (λ uid. nat_le change.first uid && nat_le uid change.last) (λ row. record row { flags = with_bits change.add change.remove row.flags }) m

-- where the name stands in the table of keywords
abbrev pub place_of : List (List ℕ) → List ℕ → Option ℕ
place_of names name = position (bytes_eq name) names

-- the table has the name, at its end where it is new
abbrev pub with_name : List ℕ → List (List ℕ) → List (List ℕ)
with_name name names = if list_any (bytes_eq name) names then names else names ++ name ∷ []

-- a row's keywords with one more, in rising order
abbrev pub with_place : ℕ → List ℕ → List ℕ
with_place k [] = k ∷ []
with_place k (p ∷ ps) = if nat_lt k p then k ∷ p ∷ ps else (if nat_eq k p then p ∷ ps else p ∷ with_place k ps)

-- a row's keywords without one
abbrev pub without_place : ℕ → List ℕ → List ℕ
without_place k places = filter (λ p. not (nat_eq p k)) places

-- the keyword at this place is added or removed, or is then the only one (mail_transaction_keyword_update: `modify_type`)
abbrev pub keywords_after : How → ℕ → List ℕ → List ℕ
keywords_after Add k places = with_place k places
keywords_after Remove k places = without_place k places
keywords_after Replace k places = k ∷ []

-- the keywords of each row in the ranges change
abbrev pub with_keywords : List Pair → (List ℕ → List ℕ) → Mailbox → Mailbox
with_keywords pairs change m = with_changed (is_in_pairs pairs) (λ row. record row { keywords = change row.keywords }) m

-- a name that is removed isn't put into the table
abbrev pub with_named : How → List ℕ → Mailbox → Mailbox
with_named Remove name m = m
with_named how name m = record m { keywords = with_name name m.keywords }

-- a name that isn't in the table is no row's
abbrev pub with_keyword : How → List ℕ → List Pair → Mailbox → Mailbox
with_keyword how name pairs m = at_place (place_of m.keywords name)
  where
    at_place : Option ℕ → Mailbox
    at_place None = m
    at_place (Some k) = with_keywords pairs (keywords_after how k) m

-- ---- extensions (what their records do here is this project's own)

-- the `ext_id` of an introduction by name
abbrev pub no_id : ℕ
no_id = 4294967295

-- an introduction speaks of the extension at its place or of that with its name (mail_transaction_ext_intro)
abbrev pub introduced : List Extension → Intro → Option ℕ
introduced es intro =
    if nat_eq intro.ext_id no_id then position (λ e. bytes_eq e.name intro.name) es
    else (if nat_lt intro.ext_id (length es) then Some intro.ext_id else None)

-- at most 16 extensions, 1,024 bytes of a row and 65,536 of a header
abbrev pub fit : List Extension → Bool
fit es = nat_le (length es) 16 && nat_le (sum_by (λ e. e.record_size) es) 1024 && list_all (λ e. nat_le (length e.header) 65536) es

-- filled up with zero bytes, and never cut
abbrev pub grown_to : ℕ → List ℕ → List ℕ
grown_to n bytes = bytes ++ replicate (n - length bytes) 0

-- the item at a place is changed
abbrev pub with_item : {X : Type 0} → ℕ → (X → X) → List X → List X
with_item k change [] = []
with_item zero change (x ∷ xs) = change x ∷ xs
with_item (suc k) change (x ∷ xs) = x ∷ with_item k change xs

-- an extension with room for the larger header and the larger rows
abbrev pub grown_extension : Intro → Extension → Extension
grown_extension intro e = record e { header = grown_to intro.hdr_size e.header; record_size = max e.record_size intro.record_size }

-- an extension as it is introduced, with a header of zero bytes
abbrev pub new_extension : Intro → Extension
new_extension intro =
    record { name = intro.name; reset_id = intro.reset_id; header = replicate intro.hdr_size 0; record_size = intro.record_size; record_align = intro.record_align; flags = intro.flags }

-- a row's parts are changed
abbrev pub with_row_parts : (List (List ℕ) → List (List ℕ)) → Row → Row
with_row_parts change row = record row { parts = change row.parts }

-- the part of each row that belongs to the extension at a place is changed
abbrev pub with_parts : ℕ → (List ℕ → List ℕ) → Mailbox → Mailbox
with_parts k change m = record m { rows = map (with_row_parts (with_item k change)) m.rows }

-- no extension is current
abbrev pub without_current : Mailbox → Mailbox
without_current m = record m { current = None }

-- the mailbox with these extensions and this current one, where they are within the limits; else with no current one
abbrev pub if_fit : Mailbox → Mailbox → Mailbox
if_fit m changed = if fit changed.extensions then changed else without_current m

-- a known extension that was not reset since grows to the larger sizes
abbrev pub reintroduced : Mailbox → ℕ → Extension → Intro → Mailbox
reintroduced m k e intro =
    if nat_eq e.reset_id intro.reset_id
    then if_fit m (record (with_parts k (grown_to intro.record_size) m) { extensions = with_item k (grown_extension intro) m.extensions; current = Some (record { extension = k; size = intro.record_size }) })
    else without_current m

-- an extension may be called anything of 1 to 255 bytes but `keywords`
abbrev pub may_be_added : Intro → Bool
may_be_added intro = nat_eq intro.ext_id no_id && nat_le 1 (length intro.name) && nat_le (length intro.name) 255 && not (bytes_eq intro.name (codes "keywords"))

-- a new extension has zero bytes
abbrev pub added_extension : Mailbox → Intro → Mailbox
added_extension m intro = if_fit m (record m {
  rows = map (with_row_parts (λ parts. parts ++ replicate intro.record_size 0 ∷ [])) m.rows;
  extensions = m.extensions ++ new_extension intro ∷ [];
  current = Some (record { extension = length m.extensions; size = intro.record_size });
})

-- an introduction makes an extension current, or none
abbrev pub with_intro : Mailbox → Intro → Mailbox
with_intro m intro = at_place (introduced m.extensions intro)
  where
    known : ℕ → Option Extension → Mailbox
    known k None = without_current m
    known k (Some e) = reintroduced m k e intro

    at_place : Option ℕ → Mailbox
    at_place (Some k) = known k (slice_get m.extensions k)
    at_place None = if may_be_added intro then added_extension m intro else without_current m

-- what the current extension, where there is one, makes of the mailbox
abbrev pub on_current : Mailbox → (Current → Mailbox) → Mailbox
on_current m change = at m.current
  where
    at : Option Current → Mailbox
    at None = m
    at (Some current) = change current

-- zero bytes of the same number
abbrev pub zeroed : List ℕ → List ℕ
zeroed bytes = replicate (length bytes) 0

-- a reset gives the current extension a new number, and zero bytes unless it preserves the data (mail_transaction_ext_reset)
abbrev pub with_reset : ℕ → ℕ → Mailbox → Current → Mailbox
with_reset reset_id preserve m current =
    if nat_eq preserve 0
    then record (with_parts current.extension zeroed m) { extensions = with_item current.extension (λ e. record e { reset_id = reset_id; header = zeroed e.header }) m.extensions }
    else record m { extensions = with_item current.extension (λ e. record e { reset_id = reset_id }) m.extensions }

-- bytes written over others at an offset, where they fit there
abbrev pub written_over : List ℕ → Part → List ℕ
written_over bytes part =
    if nat_le (part.offset + length part.bytes) (length bytes) then take part.offset bytes ++ part.bytes ++ drop (part.offset + length part.bytes) bytes else bytes

-- each part that fits goes into the header of the current extension (mail_transaction_ext_hdr_update)
abbrev pub with_header_parts : List Part → Mailbox → Current → Mailbox
with_header_parts parts m current =
    record m { extensions = with_item current.extension (λ e. record e { header = fold written_over e.header parts }) m.extensions }

-- so many pieces of so many bytes
abbrev pub update_rows : ℕ → ℕ → List ℕ → List (List ℕ)
update_rows zero size bytes = []
update_rows (suc k) size bytes = take size bytes ∷ update_rows k size (drop size bytes)

-- a row of a record update: the UID, n bytes, padded to four (mail_transaction_ext_rec_update)
abbrev pub update_size : ℕ → ℕ
update_size n = padded (4 + n)

-- the first n bytes of the row's part are the update's, and those behind them stay
abbrev pub with_update : Current → Mailbox → List ℕ → Mailbox
with_update current m update =
    with_changed (nat_eq (from_le_bytes w32 (take 4 update))) (λ row. record row { parts = with_item current.extension (λ part. take current.size (drop 4 update) ++ drop current.size part) row.parts }) m

-- bytes that are no whole number of rows have no effect
abbrev pub with_updates : List ℕ → Mailbox → Current → Mailbox
with_updates bytes m current =
    if nat_eq (length bytes % update_size current.size) 0
    then fold (with_update current) m (update_rows (length bytes / update_size current.size) (update_size current.size) bytes)
    else m

-- ---- any record

-- by the record's kind; a record of another type has none
abbrev pub effect : Mailbox → Body → Option Mailbox
effect m (Append rows) = with_rows m rows
effect m (HeaderUpdate parts) = Some (fold with_header_part m parts)
effect m (Expunge pairs) = Some (without_uids (is_in_pairs pairs) m)
effect m (ExpungeGuid rows) = Some (without_uids (is_in_guid_rows rows) m)
effect m (FlagUpdate changes) = Some (fold with_change m changes)
effect m (KeywordUpdate how name pairs) = Some (with_keyword how name pairs (with_named how name m))
effect m (KeywordReset pairs) = Some (with_keywords pairs (λ places. []) m)
effect m (ExtIntro intros) = Some (fold with_intro m intros)
effect m (ExtReset reset_id preserve) = Some (on_current m (with_reset reset_id preserve m))
effect m (ExtHeaderUpdate parts) = Some (on_current m (with_header_parts parts m))
effect m (ExtRecordUpdate bytes) = Some (on_current m (with_updates bytes m))
effect m (Carried code bytes) = Some m

-- the record is an expunge of either kind
abbrev pub removes : Body → Bool
removes (Expunge pairs) = true
removes (ExpungeGuid rows) = true
removes body = false

-- the lowest of the four highest bits of the type (MAIL_TRANSACTION_EXTERNAL)
abbrev pub is_external : Record → Bool
is_external r = nat_eq (r.top % 2) 1

-- an expunge without the external mark only asks for one, and removes nothing
abbrev pub is_request : Record → Bool
is_request r = removes r.body && not (is_external r)

-- each record has a modification sequence of its own, higher than all before (RFC 7162, section 3.1), until their end
abbrev pub with_higher : Mailbox → Mailbox
with_higher m = record m { highest = min (m.highest + 1) last_modseq }

-- the five system flags and the keywords are as they were
abbrev pub is_as_before : Row → Row → Bool
is_as_before row old = nat_eq row.uid old.uid && nat_eq (row.flags % 32) (old.flags % 32) && bytes_eq row.keywords old.keywords

-- a row that isn't as before has this modification sequence
abbrev pub stamped_row : List Row → ℕ → Row → Row
stamped_row before n row = if list_any (is_as_before row) before then row else record row { modseq = n }

-- a row that is new or changed has the record's modification sequence
abbrev pub stamped : List Row → Mailbox → Mailbox
stamped before m = record m { rows = map (stamped_row before m.highest) m.rows }

-- the mailbox after a record, unless it is refused
abbrev pub after_record : Mailbox → Record → Option Mailbox
after_record m r = if is_request r then Some (with_higher m) else option_map (stamped m.rows) (effect (with_higher m) r.body)

-- the mailbox after these records in turn, unless one of them is refused
abbrev pub applied : Mailbox → List Record → Option Mailbox
applied m [] = Some m
applied m (r ∷ rs) = option_and_then (λ n. applied n rs) (after_record m r)
