-- Worked runs with failures of the disk, with limits, and with and without rotation.
use Rattle.std.specs.Prelude.{◌≡◌, refl, ℕ, ◌+◌, Bool, true, false, List, [], ◌∷◌, ◌++◌, length, replicate, codes, None}
use Rattle.std.specs.Fmt.{digits}
use Rattle.dv_model.specs.declared.types.Command.{Command}
use Rattle.dv_model.specs.declared.types.Command.TheVariants as command
use Rattle.dv_model.specs.declared.types.End.TheVariants.{Number}
use Rattle.dv_model.specs.declared.types.How.TheVariants as how
use Rattle.dv_model.specs.declared.types.Item.TheVariants as item
use Rattle.dv_model.specs.declared.types.Span.{Span}
use Rattle.dv_model.specs.Journals.{Log, new_guid}
use Rattle.dv_playing.specs.Playing.{DueAgain, Made, Owed, Play, Rotation, begin, played}
use Rattle.dv_examples.proofs.Played.{NamedLine, after_lines, attempts_of, created, created_with, failed, said_by, said_over, served, text_lines}

abbrev a : Command → NamedLine
a c = served (codes "a") 1 c

abbrev append : List ℕ → Command
append message = command.Append 0 [] message

abbrev hello : Command
hello = append (codes "hello")

abbrev one : List Span
one = record { from = Number 1; to = Number 1 } ∷ []

abbrev store_seen : Command
store_seen = command.Store false one how.Add 8 [] None

-- ---- the disk fails

-- the same STORE is answered at the same place behind its failure
undone_store : said_by (a command.Select ∷ a hello ∷ []) (failed (codes "a") 1 store_seen 1 DueAgain ∷ a store_seen ∷ [])
    ≡ text_lines (codes "a NO [UNAVAILABLE] FAULTS 1" ∷ codes "a * 1 FETCH (UID 1 FLAGS (\\Seen))" ∷ codes "a OK [MARK 1:92] STORE" ∷ [])
unfolding digits
undone_store = refl

undone_groups : length (after_lines created (a command.Select ∷ a hello ∷ failed (codes "a") 1 store_seen 1 DueAgain ∷ a store_seen ∷ [])).log.entries ≡ 2
undone_groups = refl

-- a NOOP doesn't reach the disk, and a refused command doesn't either
no_failure : said_by [] (failed (codes "a") 1 command.Check 1 DueAgain ∷ a command.Select ∷ failed (codes "a") 1 command.Noop 1 DueAgain ∷ [])
    ≡ text_lines (codes "a BAD NOT SELECTED" ∷ codes "a * 0 EXISTS" ∷ codes "a * OK [UIDVALIDITY 1000]" ∷ codes "a * OK [UIDNEXT 1]" ∷ codes "a OK [MARK 1:56] SELECT" ∷ codes "a OK [MARK 1:56] NOOP" ∷ [])
unfolding digits
no_failure = refl

-- ---- CHECK

checked : said_by (a command.Select ∷ a hello ∷ a store_seen ∷ []) (a command.Check ∷ []) ≡ text_lines (codes "a OK [MARK 1:160] CHECK" ∷ [])
unfolding digits
checked = refl

-- ---- the last UID

abbrev nearly_full : Log
nearly_full = record created { start = record created.start { next_uid = 4294967294 }; start_mark = record { file_seq = 1; offset = 60 } }

last_uid : said_over nearly_full (a command.Select ∷ []) (a (append (codes "x")) ∷ a (append (codes "y")) ∷ [])
    ≡ text_lines (codes "a * 1 EXISTS" ∷ codes "a * 1 FETCH (UID 4294967294 FLAGS ())" ∷ codes "a OK [APPENDUID 1000 4294967294] [MARK 1:76] APPEND" ∷ codes "a NO [LIMIT] UIDS" ∷ [])
unfolding digits
last_uid = refl

-- ---- a damaged message

abbrev with_damaged : Log
with_damaged = record created { start = record created.start { next_uid = 2; highest = 3; rows = record { uid = 1; flags = 0; keywords = []; parts = []; modseq = 3 } ∷ [] } }

damaged_message : said_over with_damaged (a command.Select ∷ []) (a (command.Fetch false one (item.Body ∷ [])) ∷ []) ≡ text_lines (codes "a NO [CORRUPTION] UID 1 MARK 1:56" ∷ [])
unfolding digits
damaged_message = refl

-- ---- rotation

-- a file that ends where the next group begins a new one
abbrev long_file : Bool → Log
long_file rotates = record (created_with rotates) { start_mark = record { file_seq = 1; offset = 131072 } }

rotated : said_over (long_file true) (a command.Select ∷ []) (a hello ∷ a hello ∷ [])
    ≡ text_lines (codes "a * 1 EXISTS" ∷ codes "a * 1 FETCH (UID 1 FLAGS ())" ∷ codes "a OK [APPENDUID 1000 1] [MARK 2:56] APPEND" ∷ codes "a * 2 EXISTS" ∷ codes "a * 2 FETCH (UID 2 FLAGS ())" ∷ codes "a OK [APPENDUID 1000 2] [MARK 2:72] APPEND" ∷ [])
unfolding digits
rotated = refl

-- a log that stays one file
one_file : said_over (long_file false) (a command.Select ∷ []) (a hello ∷ [])
    ≡ text_lines (codes "a * 1 EXISTS" ∷ codes "a * 1 FETCH (UID 1 FLAGS ())" ∷ codes "a OK [APPENDUID 1000 1] [MARK 1:131088] APPEND" ∷ [])
unfolding digits
one_file = refl

-- a log of one file that has no room for a group of 16 bytes
full_file : said_over (record (created_with false) { start_mark = record { file_seq = 1; offset = 1073741805 } }) (a command.Select ∷ []) (a hello ∷ []) ≡ text_lines (codes "a NO [LIMIT] BYTES 16" ∷ [])
unfolding digits
full_file = refl

-- ---- a session that hears of many writes at once, over a rotation

abbrev single : ℕ → Span
single n = record { from = Number n; to = Number n }

abbrev odd : NamedLine
odd = a (command.Store false (single 1 ∷ single 3 ∷ single 5 ∷ []) how.Add 8 [] None)

abbrev b : Command → NamedLine
b c = served (codes "b") 2 c

-- six messages, and eight writes of three rows each: the file is rotated before the fifth
abbrev before_nap : Log
before_nap = record created { start_mark = record { file_seq = 1; offset = 130800 } }

abbrev nap : List NamedLine
nap = a command.Select ∷ replicate 6 (a hello) ++ b command.Select ∷ replicate 8 odd

woken : said_over before_nap nap (b command.Noop ∷ [])
    ≡ text_lines (codes "b * 1 FETCH (UID 1 FLAGS (\\Seen))" ∷ codes "b * 3 FETCH (UID 3 FLAGS (\\Seen))" ∷ codes "b * 5 FETCH (UID 5 FLAGS (\\Seen))" ∷ codes "b OK [MARK 2:216] NOOP" ∷ [])
unfolding digits
woken = refl

nap_groups : length (after_lines before_nap nap).log.entries ≡ 14
nap_groups = refl

-- ---- readings of the clock

-- the n-th reading is 1000 + n
abbrev ticking : ℕ → ℕ
ticking n = 1000 + n

abbrev ticked : List NamedLine → Play
ticked lines = played ticking (begin (long_file true)) (attempts_of (a command.Select ∷ lines))

abbrev fails : Rotation → NamedLine
fails rotation = failed (codes "a") 1 hello 1 rotation

-- one for the new file, then one for the message; one more for the second message
two_readings : (ticked (a hello ∷ [])).log.guid 1 ≡ new_guid 1000 1000 1 1001
two_readings = refl

three_used : (ticked (a hello ∷ a hello ∷ [])).used ≡ 3
three_used = refl

-- the new file is begun anew behind a failure: four readings
begun_anew : (ticked (fails DueAgain ∷ a hello ∷ [])).log.guid 1 ≡ new_guid 1000 1000 1 1003
begun_anew = refl

-- it is owed, or made: the next write reads the clock for the message alone, until a group is written
owed : (ticked (fails Owed ∷ fails DueAgain ∷ a hello ∷ [])).log.guid 1 ≡ new_guid 1000 1000 1 1003
owed = refl

made : (ticked (fails Made ∷ a hello ∷ [])).log.guid 1 ≡ new_guid 1000 1000 1 1002
made = refl

made_behind_failure : (ticked (fails Made ∷ [])).begun ≡ true
made_behind_failure = refl

begun_until_written : (ticked (fails Made ∷ a hello ∷ [])).begun ≡ false
begun_until_written = refl

-- a write without a group reads none
none_used : (ticked (a command.Expunge ∷ failed (codes "a") 1 command.Expunge 1 Made ∷ [])).used ≡ 0
none_used = refl
