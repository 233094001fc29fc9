-- The answers of a POP3 session (RFC 1939, sections 3, 5, 6 and 7).
use Rattle.std.specs.Prelude.{ℕ, List, [], ◌∷◌, ◌++◌, length, flat_map, Option, Some, None, codes, decimal, sum_by, if◌then◌else◌}
use Rattle.dv_maildrop.specs.declared.listing.Listing.{Listing}
use Rattle.dv_maildrop.specs.declared.listing.Listing.TheVariants.{Sizes, Ids}
use Rattle.dv_maildrop.specs.declared.types.Asked.{Asked}
use Rattle.dv_maildrop.specs.declared.types.Asked.TheVariants as asked_of
use Rattle.dv_maildrop.specs.declared.types.Found.{Found}
use Rattle.dv_maildrop.specs.declared.types.Found.TheVariants as found
use Rattle.dv_maildrop.specs.declared.types.Listed.{Listed}
use Rattle.dv_maildrop.specs.declared.types.PopLine.{PopLine}
use Rattle.dv_maildrop.specs.declared.types.PopLine.TheVariants as line
use Rattle.dv_maildrop.specs.declared.types.Removal.{Removal}
use Rattle.dv_maildrop.specs.declared.types.Removal.TheVariants as removal
use Rattle.dv_maildrop.specs.Maildrops.{Transaction, asked, behind, row_of, unmarked}
use Rattle.dv_maildrop.specs.Messages.{crlf, message_text}

-- ---- parts of answers

-- a positive answer with some words behind it, and a negative one with its reason
abbrev pub ok : List ℕ → List ℕ
ok words = codes "+OK" ++ words ++ crlf

abbrev pub refused : List ℕ → List ℕ
refused reason = codes "-ERR " ++ reason ++ crlf

-- the line behind the last one of an answer
abbrev pub last_line : List ℕ
last_line = codes "." ++ crlf

-- what the session begins with
abbrev pub greeting : List ℕ
greeting = ok []

-- the octets of some messages
abbrev pub octets_of : List (ℕ × Listed) → ℕ
octets_of rows = sum_by (λ row. row.1.size) rows

-- number and sum of sizes (the drop listing)
abbrev pub stat_answer : List (ℕ × Listed) → List ℕ
stat_answer rows = ok (codes " " ++ decimal (length rows) ++ codes " " ++ decimal (octets_of rows))

-- what is listed of a message behind its number: the size (scan listing), or the unique identifier, which is made of
-- UIDVALIDITY and UID
abbrev pub column_text : Listing → Listed → List ℕ
column_text Sizes row = decimal row.size
column_text (Ids validity) row = decimal validity ++ codes "." ++ decimal row.uid

abbrev pub row_text : Listing → ℕ × Listed → List ℕ
row_text listing row = decimal row.0 ++ codes " " ++ column_text listing row.1

-- of all of some messages
abbrev pub rows_text : Listing → List (ℕ × Listed) → List ℕ
rows_text listing rows = flat_map (λ row. row_text listing row ++ crlf) rows

-- there is no such message, or it is marked
abbrev pub no_message : List ℕ
no_message = refused (codes "NONE")

-- of one message by its number
abbrev pub one_answer : Listing → ℕ → Option Listed → List ℕ
one_answer listing k None = no_message
one_answer listing k (Some row) = ok (codes " " ++ row_text listing (k, row))

-- of one, or of all that are not marked
abbrev pub listing_answer : Listing → Transaction → Option ℕ → List ℕ
listing_answer listing m None = ok [] ++ rows_text listing (unmarked m) ++ last_line
listing_answer listing m (Some k) = one_answer listing k (row_of m k)

-- only a message that is there is marked
abbrev pub marking_answer : Option Listed → List ℕ
marking_answer None = no_message
marking_answer (Some row) = ok []

-- ---- with what a store says

-- of a message: its size, its lines, and the last line
abbrev pub found_answer : Listed → Found → List ℕ
found_answer row (found.Held message) =
    ok (codes " " ++ decimal row.size) ++ message_text message ++ last_line
found_answer row found.Gone = refused (codes "GONE")
found_answer row found.Damaged = refused (codes "DAMAGED")
found_answer row (found.Disk n) = refused (codes "DISK " ++ decimal n)

-- of the removal
abbrev pub removal_answer : Removal → List ℕ
removal_answer removal.Done = ok []
removal_answer (removal.Disk n) = refused (codes "DISK " ++ decimal n)
removal_answer (removal.TooLong n) = refused (codes "BYTES " ++ decimal n)

-- what a store says while a line is answered: of the message with a UID, and of the removal of the marked messages
pub record Store : Type 0 where
  pub message : ℕ → Found
  pub removal : Removal

-- ---- the answers

-- where the store isn't asked
abbrev pub own_answer : Transaction → PopLine → List ℕ
own_answer m line.Stat = stat_answer (unmarked m)
own_answer m (line.List k) = listing_answer Sizes m k
own_answer m (line.Uidl k) = listing_answer (Ids m.uid_validity) m k
own_answer m (line.Retr k) = no_message
own_answer m (line.Dele k) = marking_answer (row_of m k)
own_answer m line.Noop = ok []
own_answer m line.Rset = ok []
own_answer m line.Quit = ok []
own_answer m line.Bad = refused (codes "LINE")

-- where it is, too
abbrev pub answer_by : Store → Transaction → PopLine → Asked → List ℕ
answer_by store m line asked_of.Nothing = own_answer m line
answer_by store m line (asked_of.Message row) = found_answer row (store.message row.uid)
answer_by store m line asked_of.Removal = removal_answer store.removal

-- the answer to a line
abbrev pub answer : Store → Transaction → PopLine → List ℕ
answer store m line = answer_by store m line (asked m line)

-- the answers to lines, each with what the store says then, up to the first QUIT
abbrev pub answers : Transaction → List (Store × PopLine) → List ℕ
answers m [] = []
answers m ((store, line) ∷ lines) =
    answer store m line ++ (if (behind m line).ended then [] else answers (behind m line) lines)
