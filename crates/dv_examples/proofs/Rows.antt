-- Scripts and what the rules answer: both sides of each theorem compute.
use Rattle.std.specs.Prelude.{◌≡◌, refl, ℕ, List, [], ◌∷◌, ◌++◌, replicate, codes, false, true, None, Some}
use Rattle.std.specs.Fmt.{digits}
use Rattle.dv_model.specs.declared.types.Command.{Command}
use Rattle.dv_model.specs.declared.types.Command.TheVariants as command
use Rattle.dv_model.specs.declared.types.End.{End}
use Rattle.dv_model.specs.declared.types.End.TheVariants.{Number, Star}
use Rattle.dv_model.specs.declared.types.How.{How}
use Rattle.dv_model.specs.declared.types.How.TheVariants as how
use Rattle.dv_model.specs.declared.types.Item.TheVariants as item
use Rattle.dv_model.specs.declared.types.Span.{Span}
use Rattle.dv_examples.proofs.Played.{NamedLine, after_lines, created, groups_text, said_by, served, text_lines}

-- ---- commands of two sessions

abbrev pub a : Command → NamedLine
a c = served (codes "a") 1 c

abbrev b : Command → NamedLine
b c = served (codes "b") 2 c

abbrev span : End → End → List Span
span from to = record { from = from; to = to } ∷ []

abbrev pub numbers : ℕ → ℕ → List Span
numbers from to = span (Number from) (Number to)

abbrev append : ℕ → List ℕ → Command
append flags message = command.Append flags [] message

abbrev store : ℕ → ℕ → How → ℕ → Command
store from to h flags = command.Store false (numbers from to) h flags [] None

abbrev fetch_flags : ℕ → Command
fetch_flags n = command.Fetch false (numbers n n) (item.Flags ∷ [])

abbrev hello : NamedLine
hello = a (append 0 (codes "hello"))

-- ---- one session

first_select : said_by [] (a command.Select ∷ [])
    ≡ text_lines (codes "a * 0 EXISTS" ∷ codes "a * OK [UIDVALIDITY 1000]" ∷ codes "a * OK [UIDNEXT 1]" ∷ codes "a OK [MARK 1:56] SELECT" ∷ [])
unfolding digits
first_select = refl

first_append : said_by (a command.Select ∷ []) (hello ∷ [])
    ≡ text_lines (codes "a * 1 EXISTS" ∷ codes "a * 1 FETCH (UID 1 FLAGS ())" ∷ codes "a OK [APPENDUID 1000 1] [MARK 1:72] APPEND" ∷ [])
unfolding digits
first_append = refl

abbrev store_seen : NamedLine
store_seen = a (store 1 1 how.Add 8)

abbrev pub one_seen : List NamedLine
one_seen = a command.Select ∷ hello ∷ store_seen ∷ []

-- a session hears its own write
own_write : said_by (a command.Select ∷ hello ∷ []) (store_seen ∷ [])
    ≡ text_lines (codes "a * 1 FETCH (UID 1 FLAGS (\\Seen))" ∷ codes "a OK [MARK 1:92] STORE" ∷ [])
unfolding digits
own_write = refl

-- the bytes of both groups
written_groups : groups_text (after_lines created one_seen)
    ≡ (0x80 ∷ 0x80 ∷ 0x80 ∷ 0x84 ∷ 2 ∷ 0 ∷ 0 ∷ 0x10 ∷ 1 ∷ 0 ∷ 0 ∷ 0 ∷ 0 ∷ 0 ∷ 0 ∷ 0 ∷ [])
    ∷ (0x80 ∷ 0x80 ∷ 0x80 ∷ 0x85 ∷ 4 ∷ 0 ∷ 0 ∷ 0x10 ∷ 1 ∷ 0 ∷ 0 ∷ 0 ∷ 1 ∷ 0 ∷ 0 ∷ 0 ∷ 8 ∷ 0 ∷ 0 ∷ 0 ∷ []) ∷ []
written_groups = refl

-- nothing to expunge, and no flag named
empty_groups : said_by one_seen (a command.Expunge ∷ a (store 1 1 how.Add 0) ∷ []) ≡ text_lines (codes "a OK [MARK 1:92] EXPUNGE" ∷ codes "a OK [MARK 1:92] STORE" ∷ [])
unfolding digits
empty_groups = refl

abbrev keyword : List ℕ
keyword = codes "k1"

abbrev store_draft : NamedLine
store_draft = a (command.Store false (numbers 1 1) how.Replace 16 (keyword ∷ []) None)

replaced_flags : said_by one_seen (store_draft ∷ []) ≡ text_lines (codes "a * 1 FETCH (UID 1 FLAGS (\\Draft k1))" ∷ codes "a OK [MARK 1:152] STORE" ∷ [])
unfolding digits
replaced_flags = refl

-- a message and its size; a literal has its number of bytes before a line feed
fetched_message : said_by (a command.Select ∷ hello ∷ []) (a (command.Fetch false (numbers 1 1) (item.Size ∷ item.Body ∷ [])) ∷ [])
    ≡ text_lines (codes "a * 1 FETCH (UID 1 RFC822.SIZE 5 BODY[] {5}" ∷ codes "hello)" ∷ codes "a OK [MARK 1:72] FETCH" ∷ [])
unfolding digits
fetched_message = refl

-- ---- numbers that no message has

bad_lines : said_by [] (a command.Noop ∷ a command.Select ∷ a (fetch_flags 1) ∷ a (command.Fetch false (span Star Star) (item.Flags ∷ [])) ∷ a (command.Fetch true (span (Number 1) Star) (item.Flags ∷ [])) ∷ [])
    ≡ text_lines (codes "a BAD NOT SELECTED" ∷ codes "a * 0 EXISTS" ∷ codes "a * OK [UIDVALIDITY 1000]" ∷ codes "a * OK [UIDNEXT 1]" ∷ codes "a OK [MARK 1:56] SELECT" ∷ codes "a BAD NO MESSAGE 1" ∷ codes "a BAD NO MESSAGE 0" ∷ codes "a OK [MARK 1:56] UID FETCH" ∷ [])
unfolding digits
bad_lines = refl

-- ---- expunges

abbrev repeated : ℕ → NamedLine → List NamedLine
repeated n line = replicate n line

-- nine messages, the last five of which are expunged
abbrev pub nine : List NamedLine
nine = a command.Select ∷ repeated 9 hello ++ a (store 5 9 how.Add 4) ∷ []

expunged_five : said_by nine (a command.Expunge ∷ [])
    ≡ text_lines (codes "a * 9 EXPUNGE" ∷ codes "a * 8 EXPUNGE" ∷ codes "a * 7 EXPUNGE" ∷ codes "a * 6 EXPUNGE" ∷ codes "a * 5 EXPUNGE" ∷ codes "a OK [MARK 1:328] EXPUNGE" ∷ [])
unfolding digits
expunged_five = refl

-- removal by UID, whatever the flags
removed : said_by one_seen (a (command.UidRemove (numbers 1 5)) ∷ a (command.UidRemove (numbers 1 5)) ∷ [])
    ≡ text_lines (codes "a * 1 EXPUNGE" ∷ codes "a OK [MARK 1:120] UID REMOVE" ∷ codes "a OK [MARK 1:120] UID REMOVE" ∷ [])
unfolding digits
removed = refl

-- ---- two sessions

abbrev delayed : List NamedLine
delayed = a command.Select ∷ a (append 4 (codes "hi")) ∷ b command.Select ∷ []

-- an expunge is told by NOOP, not in the answer to FETCH
delayed_expunge : said_by delayed (a command.Expunge ∷ b (fetch_flags 1) ∷ b command.Noop ∷ [])
    ≡ text_lines (codes "a * 1 EXPUNGE" ∷ codes "a OK [MARK 1:100] EXPUNGE" ∷ codes "b * 1 FETCH (UID 1 FLAGS (\\Deleted))" ∷ codes "b OK [MARK 1:100] FETCH" ∷ codes "b * 1 EXPUNGE" ∷ codes "b OK [MARK 1:100] NOOP" ∷ [])
unfolding digits
delayed_expunge = refl

-- the message of an expunged row can't be read
gone_message : said_by delayed (a command.Expunge ∷ b (command.Fetch false (numbers 1 1) (item.Body ∷ [])) ∷ [])
    ≡ text_lines (codes "a * 1 EXPUNGE" ∷ codes "a OK [MARK 1:100] EXPUNGE" ∷ codes "b NO [EXPUNGEISSUED] UID 1 MARK 1:100" ∷ [])
unfolding digits
gone_message = refl

abbrev two_messages : List NamedLine
two_messages = a command.Select ∷ a (append 4 (codes "x")) ∷ a (append 0 (codes "y")) ∷ b command.Select ∷ a command.Expunge ∷ []

-- a STORE changes the rows that are left, and says which is gone
untold_row : said_by two_messages (b (store 1 2 how.Add 2) ∷ []) ≡ text_lines (codes "b * 2 FETCH (UID 2 FLAGS (\\Flagged))" ∷ codes "b NO [EXPUNGEISSUED] UID 1 MARK 1:136" ∷ [])
unfolding digits
untold_row = refl

-- a message that came and went between two commands is never heard of
never_heard : said_by (b command.Select ∷ a command.Select ∷ a (append 4 (codes "x")) ∷ a command.Expunge ∷ []) (b command.Noop ∷ []) ≡ text_lines (codes "b OK [MARK 1:100] NOOP" ∷ [])
unfolding digits
never_heard = refl

-- ---- modification sequences

abbrev unchanged_since : ℕ → Command
unchanged_since n = command.Store false (numbers 1 1) how.Add 2 [] (Some n)

modified : said_by one_seen (a (command.Fetch false (numbers 1 1) (item.Modseq ∷ [])) ∷ a (unchanged_since 3) ∷ a (unchanged_since 4) ∷ [])
    ≡ text_lines (codes "a * 1 FETCH (UID 1 MODSEQ (4))" ∷ codes "a OK [MARK 1:92] FETCH" ∷ codes "a OK [MODIFIED 1] [MARK 1:92] STORE" ∷ codes "a * 1 FETCH (UID 1 FLAGS (\\Flagged \\Seen))" ∷ codes "a OK [MARK 1:112] STORE" ∷ [])
unfolding digits
modified = refl
